-- What a call does with a value that it may not find.
use Rattle.std.specs.Prelude.{◌≡◌, Bool, true, false, Option, Some, None}

-- The call answers whether there is a value. It is put into its place; where there is none, all
-- stays as it was.
abbrev pub Puts : {A B : Type 0} → (A → B) → Bool → Option B → A → A → Type 0
Puts view true value old new = value ≡ Some (view new)
Puts view false value old new = (value ≡ None) × (new ≡ old)
