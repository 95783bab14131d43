-- The loop that reads a table of slots: what it answers at each way out, value and cause at once.
use Rattle.std.proofs.Common.{is_some, Option, false, Bool, true, Some, None, ◌≡◌, List, ◌++◌, ◌&&◌, ◌≤◌, ◌+◌, inl, inr, not, [], ℕ}
use Rattle.goblin_base.specs.{declared.error.ErrorOf.ErrorOf, Footprints.Range, Reading.IsRefused}
use Rattle.goblin_base.specs.{declared.mapped.MappedEnd.MappedEnd, Parts.in_memory}
use Rattle.goblin_base.specs.{Reading.Reading, Tables.SlotFormat, Tables.ends_table}
use Rattle.goblin_base.proofs.SlotTables.{AtSlot, at-end, at-missing, at-missing_first, at-next, at-refused, at-start, at-refused_cause, reads}
use Rattle.readings.specs.Reads.{table}

-- what `piece` reads of an entry
abbrev pub value_of : {V A : Type 0} → (V → Reading (List A)) → List ℕ → V → Option (List A)
value_of piece bytes v = (piece v).value bytes

-- what `piece` reaches of an entry
abbrev pub reach_of : {V A : Type 0} → (V → Reading (List A)) → List ℕ → V → List Range
reach_of piece bytes v = (piece v).reaches bytes

-- The slot at `place` is reached, and xs is read of those before it.
pub record AtRead {V A : Type 0} (end : Option MappedEnd) (slots : SlotFormat V) (piece : V → Reading (List A))
    (bytes : List ℕ) (o place : ℕ) (xs : List A) : Type 0 where
  pub wide : 1 ≤ slots.entry.width
  pub at : AtSlot slots (value_of piece bytes) (in_memory end bytes) o place xs

module _ {V A : Type 0} (end : Option MappedEnd) (slots : SlotFormat V)
    (piece : V → Reading (List A)) (bytes : List ℕ) (o : ℕ) where
  abbrev part : List ℕ
  part = in_memory end bytes

  abbrev made : V → Option (List A)
  made = value_of piece bytes

  pub read-start : 1 ≤ slots.entry.width → AtRead end slots piece bytes o o []
  read-start wide = record { wide = wide; at = at-start slots made part o }

  module _ (place : ℕ) (xs : List A) (h : AtRead end slots piece bytes o place xs) where
    -- one slot further
    pub read-next : (ys : List A) (v : V) → reads slots part place ≡ Some v
        → slots.is_last v ≡ false → (piece v).value bytes ≡ Some ys
        → AtRead end slots piece bytes o (place + slots.entry.width) (xs ++ ys)
    read-next ys v r z k =
        record { wide = h.wide; at = at-next slots made part o place xs ys v h.at r z k }

    -- the table ends at the slot that is reached
    pub read-end : (needs_end : Bool) (missing : ℕ → Reading V) (slot : Option V)
        → reads slots part place ≡ slot → ends_table slots.is_last slot ≡ true
        → (needs_end && not (is_some slot)) ≡ false
        → (table end slots needs_end missing piece o).value bytes ≡ Some xs
    read-end needs_end missing slot r z there =
        at-end slots needs_end made part o place xs h.wide h.at slot r z there

    -- an end is needed that is not in the file
    pub read-missing : (needs_end : Bool) (missing : ℕ → Reading V) (e : ErrorOf)
        → reads slots part place ≡ None → needs_end ≡ true → (missing place).IsCause part e
        → IsRefused (table end slots needs_end missing piece o) bytes e
    read-missing needs_end missing e r m fault = (
      at-missing slots needs_end made part o place xs h.wide h.at r m,
      inl
          (at-missing_first slots needs_end made (λ p. (missing p).IsCause part)
          part o place xs e h.wide h.at r m fault),
    )

    -- the entry of the slot that is reached is refused
    pub read-refused : (needs_end : Bool) (missing : ℕ → Reading V) (v : V) (e : ErrorOf)
        → reads slots part place ≡ Some v → slots.is_last v ≡ false → IsRefused (piece v) bytes e
        → IsRefused (table end slots needs_end missing piece o) bytes e
    read-refused needs_end missing v e r z k = (
      at-refused slots needs_end made part o place xs v h.wide h.at r z k.0,
      inr
          (at-refused_cause slots made (λ v. (piece v).IsCause bytes)
          part o place xs v e h.wide h.at r z k.0 k.1),
    )
