-- A name in which nothing is escaped.
use Rattle.std.proofs.Common.{◌≡◌, ℕ, Bool, true, false, List, [], ◌∷◌, ◌++◌, ap, ◌∙◌, refl, ◌&&◌}
use Rattle.std.specs.List.{list_all}
use Rattle.pe_listing.specs.Text.{escaped, escaped_byte, is_unescaped}

-- an unescaped byte is written as itself
unescaped_byte : (b : ℕ) → is_unescaped b ≡ true → escaped_byte b ≡ b ∷ []
unfolding escaped_byte
unescaped_byte b h = rw h refl

-- a name of unescaped bytes too
pub unescaped_name : (name : List ℕ) → list_all is_unescaped name ≡ true → escaped name ≡ name
unescaped_name [] h = refl
unescaped_name (b ∷ name) h = by (is_unescaped b) refl h (unescaped_name name)
  where
    by : (t : Bool) → is_unescaped b ≡ t → (t && list_all is_unescaped name) ≡ true → (list_all is_unescaped name ≡ true → escaped name ≡ name) → escaped (b ∷ name) ≡ b ∷ name
    by true p rest then = ap (λ (xs : List ℕ). xs ++ escaped name) (unescaped_byte b p) ∙ ap (λ (xs : List ℕ). b ∷ xs) (then rest)
    by false p rest then = absurd cc
