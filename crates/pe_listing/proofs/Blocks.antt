-- How many blocks there are.
use Rattle.std.proofs.Common.{ℕ, zero, suc, ◌+◌, ◌-◌, ◌≤◌, Bool, true, false, cond, List, [], ◌∷◌, length, arith, Result, Ok, Err, nat_lt}
use Rattle.goblin_pe.specs.declared.error.ErrorOf.{ErrorOf}
use Rattle.goblin_pe.specs.sect.BaseRelocations.{Block, block_at, block_items, first_items, then_items}
use Rattle.pe_listing.specs.Lines.{block_count}

counted : (items : List (Result Block ErrorOf)) → block_count items ≤ length items
unfolding block_count
counted [] = omega arith
counted (Ok b ∷ items) = let rest = counted items in omega (arith, rest)
counted (Err e ∷ items) = let rest = counted items in omega (arith, rest)

fewer_after : (items : ℕ → List (Result Block ErrorOf)) (n p : ℕ) (item : Result Block ErrorOf) → ((q : ℕ) → length (items q) ≤ n) → length (then_items items p item) ≤ suc n
fewer_after items n p (Ok b) h = let rest = h (p + b.size) in omega (arith, rest)
fewer_after items n p (Err e) h = omega arith

few_by_test : (b : Bool) (xs : List (Result Block ErrorOf)) (n : ℕ) → length xs ≤ n → length (cond b xs []) ≤ n
few_by_test true xs n h = h
few_by_test false xs n h = omega arith

first : (n : ℕ) (directory : List ℕ) (p : ℕ) → length (first_items n directory p) ≤ n
unfolding first_items
first zero directory p = omega arith
first (suc n) directory p = few_by_test (nat_lt p (length directory)) (then_items (first_items n directory) p (block_at directory p)) (suc n) (fewer_after (first_items n directory) n p (block_at directory p) (first n directory))

-- there are no more blocks than bytes
pub block_count_below : (directory : List ℕ) → block_count (block_items directory 0) ≤ length directory
block_count_below directory =
    let most = counted (block_items directory 0) in
    let few = first (length directory - 0) directory 0 in
    omega (arith, most, few)
