-- Sums over the slots of a table.
use Rattle.std.specs.Prelude.{ℕ, zero, suc, ◌+◌, List, Option, Some, None}
use Rattle.goblin_base.specs.Tables.{SlotFormat, slot_at, stop}

-- f 0 + f 1 + .. + f (n - 1)
unfoldable pub sum_below : (ℕ → ℕ) → ℕ → ℕ
sum_below f zero = 0
sum_below f (suc n) = sum_below f n + f n

-- the amount of what is there, or 0 if nothing is
abbrev pub amount_of : {A : Type 0} → (A → ℕ) → Option A → ℕ
amount_of amount None = 0
amount_of amount (Some x) = amount x

-- the sum of the amounts of the entries before the stop of a table at o
unfoldable pub sum_of_slots : {V : Type 0} → SlotFormat V → (V → ℕ) → List ℕ → ℕ → ℕ
sum_of_slots slots amount bytes o =
    sum_below (λ i. amount_of amount (slot_at slots bytes o i)) (stop slots bytes o)
