-- The items of a base relocation directory, one after the other.
use Rattle.std.proofs.Common.{◌≡◌, ℕ, zero, suc, ◌+◌, ◌-◌, ◌/◌, ◌<◌, ◌≤◌, Bool, true, false, cond, List, [], ◌∷◌, length, nat_lt, Option, Some, None, Result, Ok, Err, refl, ap, sym, ◌∙◌, inl, inr, arith, tests, rules, slice_range}
use Rattle.std.proofs.lemmas.Bool.{cases_lt}
use Rattle.goblin_base.specs.declared.endian.Endian.TheVariants.{Little}
use Rattle.goblin_base.specs.{declared.error.ErrorOf.ErrorOf, Bytes.number, Bytes.slice_at}
use Rattle.goblin_base.proofs.Numbers.{number-of_slice, slice_at-some}
use Rattle.goblin_pe_sect.specs.declared.relocation.base.RelocationBlock.{RelocationBlock}
use Rattle.goblin_pe_sect.specs.BaseRelocations.{Block, IsBlockAt, block_at, block_items, block_value, first_items, then_items, with_head, with_words}

words_by : (head : List ℕ) (q : ℕ) (words : Option (List ℕ)) (b : Block) → with_words head q words ≡ Ok b → (own : List ℕ) × (words ≡ Some own) × (b ≡ record { rva = number Little 4 head 0; size = number Little 4 head 4; words = own })
words_by head q None b e = absurd cc
words_by head q (Some own) b e = (own, refl, cc)

head_by : (t : Bool) (size : ℕ) (e : ErrorOf) (r : Result Block ErrorOf) (b : Block) → nat_lt size 8 ≡ t → cond t (Err e) r ≡ Ok b → (8 ≤ size) × (r ≡ Ok b)
head_by true size e r b is h = absurd cc
head_by false size e r b is h = (search (rules, tests), h)

at_by : (directory : List ℕ) (p : ℕ) (head : Option (List ℕ)) (b : Block) → slice_at directory p 8 ≡ head → with_head directory (p + 8) head ≡ Ok b → IsBlockAt directory p b
at_by directory p None b first e = absurd cc
at_by directory p (Some head) b first e =
    let n = number Little 4 head 4 in
    let h = slice_at-some directory p 8 head first in
    let t = head_by (nat_lt n 8) n _ _ b refl e in
    let w = words_by head (p + 8) (slice_at directory (p + 8) (n - 8)) b t.1 in
    let s = slice_at-some directory (p + 8) (n - 8) w.0 w.1 in
    let size_is : b.size ≡ n = ap (λ (x : Block). x.size) w.2 in
    let here : p + 0 ≡ p = omega arith in
    let to : p + 8 + (n - 8) ≡ p + b.size = omega (arith, t.0, size_is) in
    let rva_at : number Little 4 head 0 ≡ number Little 4 directory p = ap (λ (xs : List ℕ). number Little 4 xs 0) h.value ∙ number-of_slice Little 4 directory p 8 0 (omega arith) ∙ ap (number Little 4 directory) here in
    let size_at : n ≡ number Little 4 directory (p + 4) = ap (λ (xs : List ℕ). number Little 4 xs 4) h.value ∙ number-of_slice Little 4 directory p 8 4 (omega arith) in
    record {
      large = omega (arith, t.0, size_is);
      within = omega (arith, s.end, t.0, size_is);
      after = λ _. s.start;
      rva = sym (ap (λ (x : Block). x.rva) w.2 ∙ rva_at);
      size = sym (size_is ∙ size_at);
      words = sym (ap (λ (x : Block). x.words) w.2 ∙ s.value ∙ ap (slice_range directory (p + 8)) to);
    }

pub at_from_read : (directory : List ℕ) (p : ℕ) (b : Block) → block_at directory p ≡ Ok b → IsBlockAt directory p b
unfolding block_at
at_from_read directory p b e = at_by directory p (slice_at directory p 8) b refl e

-- a block has its head at least
pub size-block_at : (directory : List ℕ) (p : ℕ) (b : Block) → block_at directory p ≡ Ok b → 8 ≤ b.size
size-block_at directory p b e = (at_from_read directory p b e).large

pub inside : (directory : List ℕ) (n p : ℕ) → p < length directory → first_items (suc n) directory p ≡ then_items (first_items n directory) p (block_at directory p)
unfolding first_items
inside directory n p lt = let test : nat_lt p (length directory) ≡ true = search (rules, tests) in rw test refl

pub first_items-past : (directory : List ℕ) (n p : ℕ) → length directory ≤ p → first_items n directory p ≡ []
unfolding first_items
first_items-past directory zero p le = refl
first_items-past directory (suc n) p le = let test : nat_lt p (length directory) ≡ false = search (rules, tests) in rw test refl

step_enough : (n m : ℕ) (directory : List ℕ) (p : ℕ) → p < length directory → length directory - p ≤ suc n → length directory - p ≤ suc m → ((next : ℕ) → length directory - next ≤ n → length directory - next ≤ m → first_items n directory next ≡ first_items m directory next) → (r : Result Block ErrorOf) → block_at directory p ≡ r → then_items (first_items n directory) p r ≡ then_items (first_items m directory) p r
step_enough n m directory p lt h k same (Ok b) is =
    ap (λ (items : List (Result Block ErrorOf)). Ok b ∷ items) (same (p + b.size) (omega (arith, size-block_at directory p b is)) (omega (arith, size-block_at directory p b is)))
step_enough n m directory p lt h k same (Err e) is = refl

-- two limits that are enough give the same
enough : (n m : ℕ) (directory : List ℕ) (p : ℕ) → length directory - p ≤ n → length directory - p ≤ m → first_items n directory p ≡ first_items m directory p
enough zero zero directory p h k = refl
enough zero (suc m) directory p h k = first_items-past directory zero p (omega arith) ∙ sym (first_items-past directory (suc m) p (omega arith))
enough (suc n) zero directory p h k = first_items-past directory (suc n) p (omega arith) ∙ sym (first_items-past directory zero p (omega arith))
enough (suc n) (suc m) directory p h k =
    elim (cases_lt p (length directory)) [
      | inl lt ↦ inside directory n p lt ∙ step_enough n m directory p lt h k (λ next. enough n m directory next) (block_at directory p) refl ∙ sym (inside directory m p lt)
      | inr le ↦ first_items-past directory (suc n) p le ∙ sym (first_items-past directory (suc m) p le)
    ]

pub items_past : (directory : List ℕ) (p : ℕ) → length directory ≤ p → block_items directory p ≡ []
items_past directory p le = first_items-past directory (length directory - p) p le

-- a block comes first, then the items after it
pub items_ok : (directory : List ℕ) (p : ℕ) (b : Block) → p < length directory → block_at directory p ≡ Ok b → block_items directory p ≡ Ok b ∷ block_items directory (p + b.size)
items_ok directory p b lt is =
    let large = size-block_at directory p b is in
    enough (length directory - p) (suc (length directory - p - 1)) directory p (omega arith) (omega arith)
    ∙ inside directory (length directory - p - 1) p lt
    ∙ ap (then_items (first_items (length directory - p - 1) directory) p) is
    ∙ ap (λ (items : List (Result Block ErrorOf)). Ok b ∷ items) (enough (length directory - p - 1) (length directory - (p + b.size)) directory (p + b.size) (omega (arith, large)) (omega arith))

-- an error comes alone
pub items_err : (directory : List ℕ) (p : ℕ) (e : ErrorOf) → p < length directory → block_at directory p ≡ Err e → block_items directory p ≡ Err e ∷ []
items_err directory p e lt is =
    enough (length directory - p) (suc (length directory - p - 1)) directory p (omega arith) (omega arith)
    ∙ inside directory (length directory - p - 1) p lt
    ∙ ap (then_items (first_items (length directory - p - 1) directory) p) is

few_by : (n : ℕ) (directory : List ℕ) (p : ℕ) → p < length directory → ((next : ℕ) → length (first_items n directory next) ≤ (length directory - next + 7) / 8) → (r : Result Block ErrorOf) → block_at directory p ≡ r → length (then_items (first_items n directory) p r) ≤ (length directory - p + 7) / 8
few_by n directory p lt few (Ok b) is = omega (arith, few (p + b.size), size-block_at directory p b is, lt)
few_by n directory p lt few (Err e) is = omega (arith, lt)

none_at : (directory : List ℕ) (p : ℕ) → first_items zero directory p ≡ []
unfolding first_items
none_at directory p = refl

items_few : (n : ℕ) (directory : List ℕ) (p : ℕ) → length (first_items n directory p) ≤ (length directory - p + 7) / 8
items_few zero directory p = omega (arith, ap length (none_at directory p))
items_few (suc n) directory p =
    elim (cases_lt p (length directory)) [
      | inl lt ↦ omega (arith, ap length (inside directory n p lt), few_by n directory p lt (items_few n directory) (block_at directory p) refl)
      | inr le ↦ omega (arith, ap length (first_items-past directory (suc n) p le))
    ]

-- no more come than heads fit, with one for a rest
pub items_most : (directory : List ℕ) (p : ℕ) → length (block_items directory p) ≤ (length directory - p + 7) / 8
items_most directory p = items_few (length directory - p) directory p

-- the same of a block that was read
pub block_first : (directory : List ℕ) (p : ℕ) (block : RelocationBlock) → p < length directory → Ok (block_value block) ≡ block_at directory p → block_items directory p ≡ Ok (block_value block) ∷ block_items directory (p + block.size)
block_first directory p block lt is = items_ok directory p (block_value block) lt (sym is)

pub ruleset items = (block_first, items_err, items_past)
