-- The laws of tables of slots, each entry read on its own, whose slots are read up to an end.
use Rattle.std.proofs.Common.{◌≡◌, ℕ, Bool, List, Option, Some, None, inl, inr, IsSomeAnd}
use Rattle.goblin_base.specs.declared.{error.ErrorOf.ErrorOf, mapped.MappedEnd.MappedEnd}
use Rattle.goblin_base.specs.Answers.{IsMemory}
use Rattle.goblin_base.specs.Footprints.{Agree, Range, led_to, positions, slot_footprint, slots_reached}
use Rattle.goblin_base.specs.Parts.{in_memory, slot_footprint_to}
use Rattle.goblin_base.specs.Reading.{IsRefused, Reading}
use Rattle.goblin_base.specs.Tables.{IsTableFault, SlotFormat, concat_below, kept_slots, slot_at, slot_place, slot_table, stop}
use Rattle.goblin_base.proofs.Footprints.{agree-left, agree-right, same-kept_slots, same-slot_table}
use Rattle.goblin_base.proofs.InMemory.{agree-in_memory, in_memory-in}
use Rattle.goblin_base.proofs.Inside.{AreInside, below-in, both-in, led-in, slots-in, slots-own-in}

-- files that agree on what the table reaches agree on the slots
slots_agree : {V : Type 0} (end : Option MappedEnd) (slots : SlotFormat V) (leads_to : V → List Range) (a b : List ℕ) (o : ℕ) → Agree (slot_footprint_to end slots leads_to a o) a b
    → Agree (positions o (slot_place slots o (slots_reached slots (in_memory end a) o))) (in_memory end a) (in_memory end b)
unfolding slot_footprint
slots_agree None slots leads_to a b o h = agree-right (concat_below (λ i. led_to (slot_at slots a o i) leads_to) (stop slots a o)) _ a b h
slots_agree (Some e) slots leads_to a b o h =
    let part = in_memory (Some e) a in
    agree-in_memory (Some e) (positions o (slot_place slots o (slots_reached slots part o))) a b
    (agree-right (concat_below (λ i. led_to (slot_at slots part o i) leads_to) (stop slots part o)) _ a b h)

-- and on what the entries lead to
leads_agree : {V : Type 0} (end : Option MappedEnd) (slots : SlotFormat V) (leads_to : V → List Range) (a b : List ℕ) (o : ℕ) → Agree (slot_footprint_to end slots leads_to a o) a b
    → Agree (concat_below (λ i. led_to (slot_at slots (in_memory end a) o i) leads_to) (stop slots (in_memory end a) o)) a b
unfolding slot_footprint
leads_agree None slots leads_to a b o h = agree-left (concat_below (λ i. led_to (slot_at slots a o i) leads_to) (stop slots a o)) _ a b h
leads_agree (Some e) slots leads_to a b o h =
    let part = in_memory (Some e) a in
    agree-left (concat_below (λ i. led_to (slot_at slots part o i) leads_to) (stop slots part o)) _ a b h

slots_inside : {V : Type 0} (end : Option MappedEnd) (slots : SlotFormat V) (leads_to : V → List Range) (bytes : List ℕ) (o : ℕ) → ((v : V) → AreInside bytes (leads_to v)) → AreInside bytes (slot_footprint_to end slots leads_to bytes o)
slots_inside None slots leads_to bytes o h = slots-in bytes slots o leads_to h
slots_inside (Some e) slots leads_to bytes o h =
    let part = in_memory (Some e) bytes in
    let leads = λ (i : ℕ). led_to (slot_at slots part o i) leads_to in
    both-in bytes (concat_below leads (stop slots part o)) _
    (below-in bytes leads (stop slots part o) (λ i. led-in bytes (slot_at slots part o i) leads_to h))
    (in_memory-in (Some e) bytes (positions o (slot_place slots o (slots_reached slots part o))) (slots-own-in part slots o))

module _ {V A : Type 0} (end : Option MappedEnd) (slots : SlotFormat V) (piece : V → Reading (List A)) (o : ℕ) where
  module _ (a b : List ℕ) (h : Agree (slot_footprint_to end slots (λ v. (piece v).reaches a) a o) a b) where
    pub table-local : (needs_end : Bool) → slot_table slots needs_end (λ v. (piece v).value a) (in_memory end a) o
        ≡ slot_table slots needs_end (λ v. (piece v).value b) (in_memory end b) o
    table-local needs_end =
        same-slot_table slots (λ v. (piece v).reaches a) (λ v. (piece v).value a) (λ v. (piece v).value b)
        (in_memory end a) (in_memory end b) a b o (λ v agree. (piece v).is_local a b agree)
        (slots_agree end slots (λ v. (piece v).reaches a) a b o h) (leads_agree end slots (λ v. (piece v).reaches a) a b o h)
        needs_end

    pub kept-local : kept_slots slots (λ v. (piece v).value a) (in_memory end a) o
        ≡ kept_slots slots (λ v. (piece v).value b) (in_memory end b) o
    kept-local =
        same-kept_slots slots (λ v. (piece v).reaches a) (λ v. (piece v).value a) (λ v. (piece v).value b)
        (in_memory end a) (in_memory end b) a b o (λ v agree. (piece v).is_local a b agree)
        (slots_agree end slots (λ v. (piece v).reaches a) a b o h) (leads_agree end slots (λ v. (piece v).reaches a) a b o h)

  pub table-inside : (bytes : List ℕ)
      → AreInside bytes (slot_footprint_to end slots (λ v. (piece v).reaches bytes) bytes o)
  table-inside bytes =
      slots_inside end slots (λ v. (piece v).reaches bytes) bytes o (λ v. (piece v).is_inside bytes)

  some_no_memory : (bytes : List ℕ) (slot : Option V) (e : ErrorOf)
      → IsSomeAnd slot (λ v. IsRefused (piece v) bytes e)
      → ¬ IsMemory e
  some_no_memory bytes None e h = absurd h
  some_no_memory bytes (Some v) e h = (piece v).not_memory bytes e h.1

  pub table-not_memory : (needs_end : Bool) (missing : ℕ → Reading V) (bytes : List ℕ)
      (e : ErrorOf)
      → IsTableFault slots needs_end (λ v. (piece v).value bytes)
      (λ p. (missing p).IsCause (in_memory end bytes)) (λ v. (piece v).IsCause bytes) (in_memory end bytes) o e
      → ¬ IsMemory e
  table-not_memory needs_end missing bytes e (inl h) =
      (missing (slot_place slots o (stop slots (in_memory end bytes) o))).not_memory (in_memory end bytes) e h.1.2
  table-not_memory needs_end missing bytes e (inr h) =
      some_no_memory bytes (slot_at slots (in_memory end bytes) o h.0) e h.3
