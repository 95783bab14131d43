-- What was pushed to a text, piece by piece.
use Rattle.std.proofs.Common.{◌≡◌, ℕ, List, [], ◌++◌, ap, sym, ◌∙◌, append_assoc, append-nil}

-- a piece, and all after it
pub pushed : (old mid new piece rest : List ℕ) → mid ≡ old ++ piece → new ≡ mid ++ rest → new ≡ old ++ (piece ++ rest)
pushed old mid new piece rest first then = then ∙ ap (λ (xs : List ℕ). xs ++ rest) first ∙ append_assoc old piece rest

-- the last piece
pub pushed_last : (old new piece : List ℕ) → new ≡ old ++ piece → new ≡ old ++ (piece ++ [])
pushed_last old new piece h = h ∙ ap (λ (xs : List ℕ). old ++ xs) (sym (append-nil piece))
