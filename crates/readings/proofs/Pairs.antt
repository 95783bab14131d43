-- Pairs of values.
use Rattle.std.proofs.Common.{◌≡◌, ℕ, true, List, Option, Some, None, refl, subst}
use Rattle.goblin_base.proofs.Steps.{same_value}
use Rattle.readings.specs.Reads.{in_its_place, pair_of, with_slots}

-- where the pair is there, both are
pub record AreBoth {A B : Type 0} (x : Option A) (y : Option B) (pair : A × B) : Type 0 where
  pub first : x ≡ Some pair.0
  pub second : y ≡ Some pair.1

pub both : {A B : Type 0} (x : Option A) (y : Option B) (pair : A × B) → pair_of x y ≡ Some pair
    → AreBoth x y pair
both None y pair e = absurd cc
both (Some a) None pair e = absurd cc
both (Some a) (Some b) pair e =
    subst (AreBoth (Some a) (Some b)) (same_value (a, b) pair e)
    (record { first = refl; second = refl })

-- a table with its slots
pub with_slots-both : {A : Type 0} (kept : List ℕ) (made : Option A) (both : A × List ℕ)
    → with_slots kept made ≡ Some both → (made ≡ Some both.0) × (kept ≡ both.1)
with_slots-both kept None both e = absurd cc
with_slots-both {A} kept (Some x) both e =
    subst (λ (p : A × List ℕ). (Some x ≡ Some p.0) × (kept ≡ p.1)) (same_value (x, kept) both e)
    (refl, refl)

-- strict mode takes nothing in the place of a value
pub strict_in_its_place : {A : Type 0} (d : A) (o : Option A) → in_its_place true d o ≡ o
strict_in_its_place d None = refl
strict_in_its_place d (Some x) = refl
