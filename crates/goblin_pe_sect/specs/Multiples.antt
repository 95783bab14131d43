-- The multiples of a number that are nearest to another number.
use Rattle.std.specs.Prelude.{ℕ, zero, suc, ◌+◌, ◌%◌, ◌==◌, ◌&&◌, Bool, nat_le, if◌then◌else◌}
use Rattle.goblin_base.specs.Tables.{least}

-- m is a multiple of step
abbrev pub is_multiple : ℕ → ℕ → Bool
is_multiple step m = m % step == 0

-- the greatest number up to n that passes the test, or 0 if none does
unfoldable pub greatest : (ℕ → Bool) → ℕ → ℕ
greatest test zero = zero
greatest test (suc n) = if test (suc n) then suc n else greatest test n

-- the greatest multiple of step that is at most x
unfoldable pub greatest_multiple : ℕ → ℕ → ℕ
greatest_multiple step x = greatest (is_multiple step) x

-- the least multiple of step that is at least x; one of the step numbers from x on is a multiple
unfoldable pub least_multiple : ℕ → ℕ → ℕ
least_multiple step x = least (λ m. nat_le x m && is_multiple step m) (x + step)
