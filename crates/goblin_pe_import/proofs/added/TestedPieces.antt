-- An address table that is tested in pieces.
use Rattle.std.proofs.Common.{◌≡◌, ◌≤◌, ◌+◌, ℕ, zero, suc, Bool, true, false, not, if◌then◌else◌, is_none, is_some, IsSomeAnd, List, [], length, Option, Some, None, Result, Ok, Err, option_map, refl, sym, ap, ◌∙◌, arith, lit≤}
use Rattle.goblin_base.specs.{declared.error.ErrorOf.ErrorOf, Answers.FirstFault}
use Rattle.goblin_base.specs.Tables.{Format, SlotFormat, each_below, ends_table, join, made_of, slot_at, slot_table, stop}
use Rattle.goblin_base.proofs.Below.{least-before}
use Rattle.goblin_base.proofs.SlotTables.{ends, going, reads}
use Rattle.readings.specs.Walks.{refusal_of}
use Rattle.readings.proofs.Loops.{read-end, read-missing, read-start, value_of}
use Rattle.readings.proofs.Walks.{cause-slot, shifted, stop-first, stop-next}
use Rattle.goblin_pe_import.specs.ImportEntries.{EntryValue, entry_slots}
use Rattle.goblin_pe_import.specs.LookupReadings.{address_table, entry_number, entry_value_at}
use Rattle.goblin_pe_import.specs.added.TestedTables.{TestsPiece, in_next, resumed, sum_resumed, tested_slots, tested_table}
use Rattle.goblin_pe_import.specs.added.StepsAhead.{TestsFirst}
use Rattle.goblin_pe_sect.specs.Addresses.{Addressing}
use Rattle.goblin_pe_import.specs.ImportRecords.{ImportDirectoryEntry, address_table_rva, import_slots, is_last_record}
use Rattle.goblin_pe_import.specs.TableSums.{sum_of_slots}
use Rattle.goblin_pe_import.proofs.SlotSteps.{sum-first, sum-here}

pub some-of : {A : Type 0} {P : A → Type 0} (o : Option A) → IsSomeAnd o P
    → (x : A) × (o ≡ Some x) × P x
some-of None h = absurd h
some-of (Some x) h = (x, refl, h)

-- whether there is a value
abbrev pub is_read : Option (List ℕ) → Option (Unit {0})
is_read found = option_map (λ _. tt {0}) found

-- ---- one slot

module _ (format : Format EntryValue) (bytes : List ℕ) where
  abbrev made : ℕ → ℕ → Option (List ℕ)
  made o i = made_of (entry_slots format) (value_of entry_number bytes) bytes o i

  both : (x y : Option (List ℕ)) → is_some x ≡ true → is_some y ≡ true → is_some (join x y) ≡ true
  both None y h k = absurd cc
  both (Some x) None h k = absurd cc
  both (Some x) (Some y) h k = refl

  -- each number before the stop is read
  made-all : (o n : ℕ) → n ≤ stop (entry_slots format) bytes o → is_some (each_below (made o) n) ≡ true
  unfolding stop
  made-all o zero few = refl
  made-all o (suc n) few =
      let v = going (entry_slots format).is_last (slot_at (entry_slots format) bytes o n)
      (least-before (ends (entry_slots format) bytes o) (length bytes) n (omega (arith, few))) in
      both (each_below (made o) n) (made o n) (made-all o n (omega (arith, few))) (rw v.1 refl)

  reads_all : (end : Bool) (all : Option (List ℕ)) → is_some all ≡ true
      → is_read (if not end then None else all) ≡ (if end then Some (tt {0}) else None)
  reads_all true None h = absurd cc
  reads_all true (Some x) h = refl
  reads_all false all h = refl

  -- a table is read if its stop is in the file
  abbrev ended : ℕ → Bool
  ended o = is_some (slot_at (entry_slots format) bytes o (stop (entry_slots format) bytes o))

  by-end : (o : ℕ)
      → is_read ((address_table format o).value bytes) ≡ (if ended o then Some (tt {0}) else None)
  unfolding slot_table
  by-end o =
      reads_all (ended o) (each_below (made o) (stop (entry_slots format) bytes o))
      (made-all o (stop (entry_slots format) bytes o) (omega arith))

  module _ (p : ℕ) (wide : 1 ≤ format.width) (v : EntryValue)
      (r : reads (entry_slots format) bytes p ≡ Some v) (z : (entry_slots format).is_last v ≡ false)
    where
      -- a table reads as it does from its next slot on
      pub read-on : is_read ((address_table format p).value bytes)
          ≡ is_read ((address_table format (p + format.width)).value bytes)
      read-on =
          let more = stop-next (entry_slots format) bytes p wide v r z in
          let next = p + format.width in
          let same : ended p ≡ ended next =
          ap (λ (n : ℕ). is_some (slot_at (entry_slots format) bytes p n)) more
          ∙ ap (λ (place : ℕ). is_some (reads (entry_slots format) bytes place))
          (shifted (entry_slots format) bytes p wide v r z (stop (entry_slots format) bytes next)) in
          by-end p ∙ ap (λ (b : Bool). if b then Some (tt {0}) else None) same ∙ sym (by-end next)

      -- and is refused as it is from there on
      pub cause-on : (e : ErrorOf) → (address_table format (p + format.width)).IsCause bytes e
          → (address_table format p).IsCause bytes e
      cause-on e fault =
          cause-slot None (entry_slots format) entry_number bytes true (entry_value_at format) wide p (Some v) r e
          (z, fault)

  -- one that ends at a slot
  pub read-here : (p : ℕ) → 1 ≤ format.width → (v : EntryValue)
      → reads (entry_slots format) bytes p ≡ Some v → (entry_slots format).is_last v ≡ true
      → (is_read ((address_table format p).value bytes) ≡ Some (tt {0}))
      × (stop (entry_slots format) bytes p ≡ 0)
  read-here p wide v r z = (
    ap is_read
        (read-end None (entry_slots format) entry_number bytes p p []
        (read-start None (entry_slots format) entry_number bytes p wide) true (entry_value_at format) (Some v) r
        z refl),
    stop-first (entry_slots format) bytes p wide (Some v) r z,
  )

  -- one that the file ends at a slot
  pub missing-here : (p : ℕ) → 1 ≤ format.width → (e : ErrorOf)
      → reads (entry_slots format) bytes p ≡ None → (entry_value_at format p).IsCause bytes e
      → (is_read ((address_table format p).value bytes) ≡ None)
      × (address_table format p).IsCause bytes e × (stop (entry_slots format) bytes p ≡ 0)
  missing-here p wide e r fault =
      let both =
      read-missing None (entry_slots format) entry_number bytes p p []
      (read-start None (entry_slots format) entry_number bytes p wide) true (entry_value_at format) e r refl
      fault in
      (ap is_read both.0, both.1, stop-first (entry_slots format) bytes p wide None r refl)

-- ---- two readings that are both refused, or both not

pub refusal-same : {B : Type 0} (x y : Option (List ℕ)) → is_read x ≡ is_read y
    → refusal_of {B = B} x ≡ refusal_of y
refusal-same None None h = refl
refusal-same None (Some y) h = absurd cc
refusal-same (Some x) None h = absurd cc
refusal-same (Some x) (Some y) h = refl

pub fault-same : (x y : Option (List ℕ)) → is_read x ≡ is_read y
    → (IsFirst IsSecond IsLater : ErrorOf → Type 0) (e : ErrorOf) → (IsSecond e → IsFirst e)
    → FirstFault y IsSecond (λ _. IsLater) e → FirstFault x IsFirst (λ _. IsLater) e
fault-same None None h IsFirst IsSecond IsLater e chain fault = chain fault
fault-same None (Some y) h IsFirst IsSecond IsLater e chain fault = absurd cc
fault-same (Some x) None h IsFirst IsSecond IsLater e chain fault = absurd cc
fault-same (Some x) (Some y) h IsFirst IsSecond IsLater e chain fault = fault

pub none-same : (x y : Option (List ℕ)) → is_read x ≡ is_read y → is_none x ≡ is_none y
none-same None None h = refl
none-same None (Some y) h = absurd cc
none-same (Some x) None h = absurd cc
none-same (Some x) (Some y) h = refl

pub is-there : (x : Option (List ℕ)) → is_read x ≡ Some (tt {0}) → is_none x ≡ false
is-there None h = absurd cc
is-there (Some x) h = refl

pub is-missing : (x : Option (List ℕ)) → is_read x ≡ None → is_none x ≡ true
is-missing None h = refl
is-missing (Some x) h = absurd cc

-- ---- a sum whose first descriptor is tested from a place on

pub in_strict : (strict : Bool) (tested : Option ℕ) → strict ≡ true → in_next strict tested ≡ None
in_strict strict None is = refl
in_strict true (Some place) is = refl
in_strict false (Some place) is = absurd cc

pub in_permissive : (strict : Bool) (tested : Option ℕ) → strict ≡ false → in_next strict tested ≡ tested
in_permissive strict None is = refl
in_permissive true (Some place) is = absurd cc
in_permissive false (Some place) is = refl

module _ {V : Type 0} (slots : SlotFormat V) (whole : ℕ → ℕ) (amount : Option ℕ → V → ℕ)
    (bytes : List ℕ) (p : ℕ) where
  pub resumed-first : (tested : Option ℕ) (v : V) → reads slots bytes p ≡ Some v
      → slots.is_last v ≡ false → whole p ≡ amount None v + whole (p + slots.entry.width)
      → resumed slots whole amount bytes (Some p) tested
      ≡ amount tested v + whole (p + slots.entry.width)
  resumed-first None v r z next = next
  resumed-first (Some place) v r z next = rw (r, z) refl

  pub resumed-end : (tested : Option ℕ) (end : Option V) → reads slots bytes p ≡ end
      → ends_table slots.is_last end ≡ true
      → resumed slots whole amount bytes (Some p) tested ≡ whole p
  resumed-end None end r z = refl
  resumed-end (Some place) None r z = rw r refl
  resumed-end (Some place) (Some v) r z = rw (r, z) refl

-- as a sum over import descriptors
module _ (amount : Option ℕ → ImportDirectoryEntry → ℕ) (bytes : List ℕ) (p : ℕ) where
  pub summed-first : (tested : Option ℕ) (v : ImportDirectoryEntry) → reads import_slots bytes p ≡ Some v
      → is_last_record v ≡ false
      → sum_resumed import_slots amount bytes (Some p) tested
      ≡ amount tested v + sum_resumed import_slots amount bytes (Some (p + 20)) None
  summed-first tested v r z =
      resumed-first import_slots (sum_of_slots import_slots (amount None) bytes) amount bytes p tested v r z
      (sum-first import_slots bytes p (lit≤ tt) v r z (amount None))

  pub summed-end : (tested : Option ℕ) (end : Option ImportDirectoryEntry)
      → reads import_slots bytes p ≡ end → ends_table is_last_record end ≡ true
      → sum_resumed import_slots amount bytes (Some p) tested ≡ 0
  summed-end tested end r z =
      resumed-end import_slots (sum_of_slots import_slots (amount None) bytes) amount bytes p tested end r z
      ∙ sum-here import_slots (amount None) bytes p (lit≤ tt) end r z

-- a piece that is tested of a descriptor's table before its library's entries
pub first-tested : (strict : Bool) (format : Format EntryValue) (addressing : Addressing)
    (bytes : List ℕ) (tested : Option ℕ) (r : ImportDirectoryEntry)
    (result : Result (Option ℕ) ErrorOf) → strict ≡ false
    → TestsPiece format bytes (tested_table format addressing tested (address_table_rva r))
    (tested_slots format addressing bytes tested (address_table_rva r)) result
    → TestsFirst strict format addressing bytes tested r result
first-tested true format addressing bytes tested r result is h = absurd cc
first-tested false format addressing bytes tested r (Ok None) is h =
    rw (in_permissive false tested refl) (is-there _ h.0, h.1)
first-tested false format addressing bytes tested r (Ok (Some place)) is h =
    rw (in_permissive false tested refl) (refl, none-same _ _ h.0, h.2)
first-tested false format addressing bytes tested r (Err e) is h =
    rw (in_permissive false tested refl) (refl, is-missing _ h.0, h.2)
