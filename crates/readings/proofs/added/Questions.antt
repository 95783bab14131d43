-- One item passes a test where the first that does is found.
use Rattle.std.proofs.Common.{◌≡◌, ◌||◌, Bool, true, false, cond, List, [], ◌∷◌, Option, Some, None, refl, sym, ap, ◌∙◌, find, option_map, is_some}
use Rattle.readings.specs.added.Questions.{has_any}

one-or-later : {A : Type 0} (b : Bool) (x : A) (later : Option A) → is_some (cond b (Some x) later) ≡ (b || is_some later)
one-or-later true x later = refl
one-or-later false x later = refl

is_some-find : {A : Type 0} (p : A → Bool) (xs : List A) → is_some (find p xs) ≡ has_any p xs
unfolding has_any
is_some-find p [] = refl
is_some-find p (x ∷ xs) = one-or-later (p x) x (find p xs) ∙ ap (λ (b : Bool). p x || b) (is_some-find p xs)

pub is_some-seen : {X A : Type 0} (view : X → A) (found : Option X) → is_some found ≡ is_some (option_map view found)
is_some-seen view None = refl
is_some-seen view (Some x) = refl

pub found_any : {X A : Type 0} (view : X → A) (p : A → Bool) (xs : List A) (found : Option X) → option_map view found ≡ find p xs → is_some found ≡ has_any p xs
found_any view p xs found is = is_some-seen view found ∙ ap is_some is ∙ is_some-find p xs

-- the same of items that may be refused
pub found_any_of : {X A : Type 0} (view : X → A) (p : A → Bool) (all : Option (List A)) (found : Option X) → option_map (find p) all ≡ Some (option_map view found)
    → option_map (has_any p) all ≡ Some (is_some found)
found_any_of view p None found is = absurd cc
found_any_of view p (Some xs) found is = let one : option_map view found ≡ find p xs = cc in ap (λ (b : Bool). Some b) (sym (found_any view p xs found one))

pub refused_any : {A : Type 0} (p : A → Bool) (all : Option (List A)) → option_map (find p) all ≡ None → option_map (has_any p) all ≡ None
refused_any p None is = refl
refused_any p (Some xs) is = absurd cc
