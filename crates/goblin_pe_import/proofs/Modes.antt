-- Where a table may end, by the mode.
use Rattle.std.proofs.Common.{◌≡◌, Bool, true, false, not, ◌&&◌, ◌||◌, Option, None, Some, refl, option_map, is_some}

-- a table may end anywhere in permissive mode, and else in a slot that is in the file
pub ends : (strict may : Bool) {A B : Type 0} (f : A → B) (slot : Option A) → may ≡ (not strict || is_some slot) → may ≡ true → (strict && not (is_some (option_map f slot))) ≡ false
ends true may f None says is = absurd cc
ends true may f (Some x) says is = refl
ends false may f slot says is = refl

pub lacks_end : (strict may : Bool) {A B : Type 0} (f : A → B) (slot : Option A) → may ≡ (not strict || is_some slot) → may ≡ false → (strict ≡ true) × (option_map f slot ≡ None)
lacks_end true may f None says is = (refl, refl)
lacks_end true may f (Some x) says is = absurd cc
lacks_end false may f slot says is = absurd cc
