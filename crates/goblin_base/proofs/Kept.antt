-- What is read in one way, and is kept where it is read in another: steps, lists of values, and tables.
use Rattle.std.proofs.Common.{◌≡◌, ℕ, zero, suc, ◌+◌, Bool, true, false, cond, not, List, ◌∷◌, map, Option, Some, None, refl, ap, sym, arith, ◌≢◌, is_some}
use Rattle.std.specs.List.{range_with_len}
use Rattle.goblin_base.specs.Answers.{◌>>=◌, all_at, all_of}
use Rattle.goblin_base.specs.Tables.{SlotFormat, each_below, is_kept, kept_slots, or_left_out, slot_at, slot_table, stop}
use Rattle.goblin_base.proofs.Below.{each_below-kept, each_below-missing, same-filter}
use Rattle.goblin_base.proofs.Steps.{step}

-- what the first has, the second has
abbrev pub Keeps : {A : Type 0} → Option A → Option A → Type 0
Keeps {A} first second = (x : A) → first ≡ Some x → second ≡ Some x

pub then-kept : {A B : Type 0} (first second : Option A) (f g : A → Option B) → Keeps first second → ((x : A) → Keeps (f x) (g x)) → Keeps (first >>= f) (second >>= g)
then-kept first second f g kept rest y e =
    let s = step first f y e in
    rw (kept s.value s.is) (rest s.value y s.then)

range-kept : {A : Type 0} (f g : ℕ → Option A) (start n : ℕ) → ((i : ℕ) → Keeps (f i) (g i)) → Keeps (all_of (map f (range_with_len start n))) (all_of (map g (range_with_len start n)))
range-kept f g start zero kept = λ xs e. e
range-kept {A} f g start (suc n) kept =
    let Rest : (ℕ → Option A) → Option (List A) = λ h. all_of (map h (range_with_len (start + 1) n)) in
    then-kept (f start) (g start) (λ x. Rest f >>= λ rest. Some (x ∷ rest)) (λ x. Rest g >>= λ rest. Some (x ∷ rest)) (kept start)
    (λ x. then-kept (Rest f) (Rest g) (λ rest. Some (x ∷ rest)) (λ rest. Some (x ∷ rest)) (range-kept f g (start + 1) n kept) (λ rest ys same. same))

pub all_at-kept : {A : Type 0} (f g : ℕ → Option A) (n : ℕ) → ((i : ℕ) → Keeps (f i) (g i)) → Keeps (all_at f n) (all_at g n)
all_at-kept f g n kept = range-kept f g 0 n kept

-- an item that may be left out
pub or_left_out-kept : {A : Type 0} (first second : Option A) → Keeps first second → Keeps (or_left_out true first) (or_left_out false second)
or_left_out-kept None second kept xs e = absurd cc
or_left_out-kept (Some x) second kept xs e = rw (kept x refl) e

pub without_test : {A : Type 0} (test : Bool) (value : Option A) (x : A) → cond test None value ≡ Some x → value ≡ Some x
without_test true value x e = absurd cc
without_test false value x e = e

-- a table whose end is needed, where it is not
pub slot_table-kept : {V A : Type 0} (slots : SlotFormat V) (piece again : V → Option (List A)) (bytes : List ℕ) (o : ℕ) → ((v : V) → Keeps (piece v) (again v)) → Keeps (slot_table slots true piece bytes o) (slot_table slots false again bytes o)
unfolding slot_table
slot_table-kept slots piece again bytes o kept xs e =
    let n = stop slots bytes o in
    each_below-kept (λ i. slot_at slots bytes o i >>= piece) (λ i. slot_at slots bytes o i >>= again) n
    (λ i ys lt. then-kept (slot_at slots bytes o i) (slot_at slots bytes o i) piece again (λ v same. same) kept ys) xs
    (without_test (not (is_some (slot_at slots bytes o n))) (each_below (λ i. slot_at slots bytes o i >>= piece) n) xs e)

kept_same : {A : Type 0} (first second : Option (List A)) → Keeps first second → first ≢ None → is_kept first ≡ is_kept second
kept_same None second kept there = absurd (there refl)
kept_same (Some xs) second kept there = ap is_kept (sym (kept xs refl))

-- and the slots that keep something, if the table has a value
pub kept_slots-kept : {V A : Type 0} (slots : SlotFormat V) (piece again : V → Option (List A)) (bytes : List ℕ) (o : ℕ) (xs : List A) → ((v : V) → Keeps (piece v) (again v)) → slot_table slots true piece bytes o ≡ Some xs → kept_slots slots piece bytes o ≡ kept_slots slots again bytes o
unfolding slot_table kept_slots
kept_slots-kept {V} {A} slots piece again bytes o xs kept e =
    let n = stop slots bytes o in
    let made : ℕ → Option (List A) = λ i. slot_at slots bytes o i >>= piece in
    let read : each_below made n ≡ Some xs = without_test (not (is_some (slot_at slots bytes o n))) (each_below made n) xs e in
    same-filter (λ i. is_kept (made i)) (λ i. is_kept (slot_at slots bytes o i >>= again)) n 0
    (λ j lt.
    kept_same (made j) (slot_at slots bytes o j >>= again) (then-kept (slot_at slots bytes o j) (slot_at slots bytes o j) piece again (λ v same. same) kept)
    (λ none. absurd (cc (read, each_below-missing made n j (omega (arith, lt)) none))))
