-- What a call does to the records of its caller.
use Rattle.std.specs.Prelude.{◌≡◌, List, length, map, take, drop}

-- The records after a call: the front holds what was made, as far as there is room, and the rest
-- are the caller's own.
abbrev pub Filled : {A B : Type 0} → (A → B) → List B → List A → List A → Type 0
Filled view made old new =
    (map view (take (length made) new) ≡ take (length old) made)
    × (drop (length made) new ≡ drop (length made) old)
