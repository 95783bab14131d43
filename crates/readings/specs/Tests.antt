-- Tests of items.
use Rattle.std.specs.Prelude.{◌≡◌, Bool}

-- a call with an item returns whether the item, as `view` sees it, passes the test
abbrev pub IsTest : {X A : Type 0} → (X → A) → (X → Bool → Type 0) → (A → Bool) → Type 0
IsTest {X} view Returns test =
    (x : X) (found : Bool) → Returns x found → found ≡ test (view x)
