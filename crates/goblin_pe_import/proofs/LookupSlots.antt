-- A lookup table with its slots: the table alone, and the slots alone, which rise, and lie below
-- the table's stop.
use Rattle.std.proofs.Common.{◌≡◌, ◌<◌, ℕ, List, Option, None, Some, refl, sym, subst, All}
use Rattle.std.specs.List.Sorted.{IsStrictlyIncreasing}
use Rattle.goblin_base.specs.Tables.{SlotFormat, kept_slots, stop}
use Rattle.readings.specs.Reads.{with_slots}
use Rattle.goblin_base.proofs.SlotTables.{kept-below, kept-rising}
use Rattle.readings.proofs.Pairs.{with_slots-both}

pub no_table : {A : Type 0} (kept : List ℕ) (made : Option A) → with_slots kept made ≡ None
    → made ≡ None
no_table kept None e = refl
no_table kept (Some x) e = absurd cc

pub a_table : {A : Type 0} (kept : List ℕ) (made : Option A) (x : A) (own : List ℕ)
    → with_slots kept made ≡ Some (x, own) → made ≡ Some x
a_table kept made x own e = (with_slots-both kept made (x, own) e).0

pub slots : {A : Type 0} (kept : List ℕ) (made : Option A) (x : A) (own : List ℕ)
    → with_slots kept made ≡ Some (x, own) → own ≡ kept
slots kept made x own e = sym (with_slots-both kept made (x, own) e).1

module _ {V B A : Type 0} (format : SlotFormat V) (piece : V → Option (List B))
    (bytes : List ℕ) (o : ℕ) (made : Option A) (x : A) (own : List ℕ) where
  pub rising : with_slots (kept_slots format piece bytes o) made ≡ Some (x, own)
      → IsStrictlyIncreasing own
  rising e =
      subst IsStrictlyIncreasing (with_slots-both _ made (x, own) e).1
      (kept-rising format piece bytes o)

  pub below : with_slots (kept_slots format piece bytes o) made ≡ Some (x, own)
      → All (λ slot. slot < stop format bytes o) own
  below e =
      subst (All (λ slot. slot < stop format bytes o)) (with_slots-both _ made (x, own) e).1
      (kept-below format piece bytes o)

pub ruleset tables = (no_table, a_table, slots, rising, below)
