-- The laws of a choice between two readings by a test, and of a value that is checked.
use Rattle.std.proofs.Common.{◌≡◌, Bool, true, false, cond, List, ℕ}
use Rattle.goblin_base.specs.{declared.error.ErrorOf.ErrorOf, Footprints.Agree, Reading.Reading}
use Rattle.goblin_base.specs.Answers.{FirstFault, IsMemory}
use Rattle.goblin_base.proofs.{Inside.AreInside, Readings.first_no_memory}
pub use Rattle.goblin_base.proofs.Readings.{by_cases-not_memory}

module _ {A : Type 0} (r s : Reading A) where
  pub pick-local : (test : Bool) (a b : List ℕ)
      → Agree (cond test (r.reaches a) (s.reaches a)) a b
      → cond test (r.value a) (s.value a) ≡ cond test (r.value b) (s.value b)
  pick-local true a b h = r.is_local a b h
  pick-local false a b h = s.is_local a b h

  pub pick-inside : (test : Bool) (bytes : List ℕ)
      → AreInside bytes (cond test (r.reaches bytes) (s.reaches bytes))
  pick-inside true bytes = r.is_inside bytes
  pick-inside false bytes = s.is_inside bytes

  pub pick-not_memory : (test : Bool) (bytes : List ℕ) (e : ErrorOf)
      → cond test (r.IsCause bytes e) (s.IsCause bytes e) → ¬ IsMemory e
  pick-not_memory true bytes e h = r.not_memory bytes e h
  pick-not_memory false bytes e h = s.not_memory bytes e h

pub checked-not_memory : {A : Type 0} (r : Reading A) (IsRefused : A → ErrorOf → Type 0)
    → ((x : A) (e : ErrorOf) → IsRefused x e → ¬ IsMemory e)
    → (bytes : List ℕ) (e : ErrorOf)
    → FirstFault (r.value bytes) (r.IsCause bytes) IsRefused e → ¬ IsMemory e
checked-not_memory r IsRefused not_memory bytes e =
    first_no_memory (r.value bytes) (r.IsCause bytes) IsRefused e (r.not_memory bytes e)
    (λ x. not_memory x e)
