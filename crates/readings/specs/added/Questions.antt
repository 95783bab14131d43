-- What callers ask about the items of a walk: which of them pass a test.
use Rattle.std.specs.Prelude.{◌-◌, ◌^◌, ℕ, Bool, List, count_by, min}
use Rattle.std.specs.List.{list_any}

-- whether an item passes the test
unfoldable pub has_any : {A : Type 0} → (A → Bool) → List A → Bool
has_any test items = list_any test items

-- how many items pass the test, but at most the greatest number of 64 bits
abbrev pub counted : {A : Type 0} → (A → Bool) → List A → ℕ
counted test items = min (count_by test items) (2 ^ 64 - 1)
