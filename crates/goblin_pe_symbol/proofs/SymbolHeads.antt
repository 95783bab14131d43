-- The symbols of a table are its heads.
use Rattle.std.proofs.Common.{◌≡◌, ◌<◌, ◌≤◌, ℕ, zero, suc, ◌+◌, ◌-◌, ◌/◌, List, [], ◌∷◌, ◌++◌, length, refl, ap, sym, subst, ◌∙◌, inl, inr, arith, append_assoc, All, AllPairs, Contains}
use Rattle.std.proofs.{lemmas.Bool.cases_lt, lemmas.List.Kept.AllPairs-cons}
use Rattle.std.proofs.lemmas.List.Elements.{All-cons, All-nil, All-weaker, Contains-append_right, Contains-get_or}
use Rattle.goblin_pe_symbol.specs.Symbols.{AreSymbolsOf, IsHead, first, next, SymbolItem, aux, symbol_of, symbols_from, symbols_in}

-- skipped records are left out
symbols_from-skip : (k m : ℕ) (table : List ℕ) (i : ℕ) → symbols_from m k table i ≡ symbols_from (m - k) 0 table (i + k)
unfolding symbols_from
symbols_from-skip zero m table i =
    let a : m - 0 ≡ m = omega arith in
    let b : i + 0 ≡ i = omega arith in
    rw (a, b) refl
symbols_from-skip (suc k) zero table i =
    let a : 0 - suc k ≡ 0 = omega arith in
    rw a refl
symbols_from-skip (suc k) (suc m) table i =
    let a : suc m - suc k ≡ m - k = omega arith in
    let b : i + suc k ≡ i + 1 + k = omega arith in
    rw (a, b) (symbols_from-skip k m table (i + 1))

-- a symbol, and what comes after its auxiliary records
pub symbols_next : (n : ℕ) (table : List ℕ) (i : ℕ) → i < n → symbols_from (n - i) 0 table i ≡ symbol_of table i ∷ symbols_from (n - (i + 1 + aux table i)) 0 table (i + 1 + aux table i)
unfolding symbols_from
symbols_next n table i h =
    let more : n - i ≡ suc (n - i - 1) = omega (arith, h) in
    let rest : n - i - 1 - aux table i ≡ n - (i + 1 + aux table i) = omega arith in
    let skip = symbols_from-skip (aux table i) (n - i - 1) table (i + 1) in
    rw more (ap (λ (xs : List SymbolItem). symbol_of table i ∷ xs) (skip ∙ ap (λ (k : ℕ). symbols_from k 0 table (i + 1 + aux table i)) rest))

-- past the last record nothing comes
pub symbols_past : (n : ℕ) (table : List ℕ) (i : ℕ) → n ≤ i → symbols_from (n - i) 0 table i ≡ []
unfolding symbols_from
symbols_past n table i h =
    let none : n - i ≡ 0 = omega (arith, h) in
    rw none refl

pub ruleset symbols = (symbols_next, symbols_past)

head_inside : (table : List ℕ) (n h : ℕ) → IsHead table n h → h < n
head_inside table n _ (first some) = some
head_inside table n _ (next h before inside) = inside

-- the symbols of a table, and the rest of them from a head on
heads_all : (table : List ℕ) (n h : ℕ) → IsHead table n h → (front : List SymbolItem) × (symbols_from n 0 table 0 ≡ front ++ symbols_from (n - h) 0 table h)
heads_all table n _ (first some) =
    let all : n - 0 ≡ n = omega arith in
    ([], ap (λ (m : ℕ). symbols_from m 0 table 0) (sym all))
heads_all table n _ (next h before inside) =
    let earlier = heads_all table n h before in
    let step = symbols_next n table h (head_inside table n h before) in
    let later = symbols_from (n - (h + 1 + aux table h)) 0 table (h + 1 + aux table h) in
    (earlier.0 ++ symbol_of table h ∷ [], earlier.1 ∙ ap (λ (xs : List SymbolItem). earlier.0 ++ xs) step ∙ sym (append_assoc earlier.0 (symbol_of table h ∷ []) later))

at_front : (x : SymbolItem) (xs : List SymbolItem) → Contains (x ∷ xs) x
at_front x xs = Contains-get_or (x ∷ xs) 0 x (omega arith)

head_contained : (table : List ℕ) (n h : ℕ) → IsHead table n h → Contains (symbols_from n 0 table 0) (symbol_of table h)
head_contained table n h head =
    let split = heads_all table n h head in
    let step = symbols_next n table h (head_inside table n h head) in
    let later = symbols_from (n - (h + 1 + aux table h)) 0 table (h + 1 + aux table h) in
    rw (split.1, step) (Contains-append_right split.0 (symbol_of table h ∷ later) (symbol_of table h) (at_front (symbol_of table h) later))

abbrev IsSymbolOf : List ℕ → ℕ → SymbolItem → Type 0
IsSymbolOf table n item = IsHead table n item.0 × (item ≡ symbol_of table item.0)

-- from a head on, each is a head, is at that place or after it, and they rise
record Rise (table : List ℕ) (n h : ℕ) (items : List SymbolItem) : Type 0 where
  each : All (IsSymbolOf table n) items
  past : All (λ item. h ≤ item.0) items
  order : AllPairs (λ a b. a.0 < b.0) items

none_rise : (table : List ℕ) (n h : ℕ) → Rise table n h []
none_rise table n h = record { each = All-nil (IsSymbolOf table n); past = All-nil (λ (item : SymbolItem). h ≤ item.0); order = λ i j d lt inside. absurd (omega (arith, inside)) }

one_rises : (table : List ℕ) (n h : ℕ) (items : List SymbolItem) → IsHead table n h → Rise table n (h + 1 + aux table h) items → Rise table n h (symbol_of table h ∷ items)
one_rises table n h items head rest = record {
  each = All-cons (IsSymbolOf table n) (symbol_of table h) items (head, refl) rest.each;
  past = All-cons (λ (item : SymbolItem). h ≤ item.0) (symbol_of table h) items (omega arith) (All-weaker (λ (item : SymbolItem). h + 1 + aux table h ≤ item.0) (λ (item : SymbolItem). h ≤ item.0) (λ item later. omega (arith, later)) items rest.past);
  order = AllPairs-cons (λ (a b : SymbolItem). a.0 < b.0) (symbol_of table h) items (All-weaker (λ (item : SymbolItem). h + 1 + aux table h ≤ item.0) (λ (item : SymbolItem). h < item.0) (λ item later. omega (arith, later)) items rest.past) rest.order;
}

rise : (limit : ℕ) (table : List ℕ) (n h : ℕ) → n - h ≤ limit → (h < n → IsHead table n h) → Rise table n h (symbols_from (n - h) 0 table h)
rise zero table n h few head = subst (Rise table n h) (sym (symbols_past n table h (omega (arith, few)))) (none_rise table n h)
rise (suc limit) table n h few head =
    elim (cases_lt h n) [
      | inr past ↦ subst (Rise table n h) (sym (symbols_past n table h past)) (none_rise table n h)
      | inl inside ↦
          let later = rise limit table n (h + 1 + aux table h) (omega (arith, few)) (λ within. next h (head inside) within) in
          subst (Rise table n h) (sym (symbols_next n table h inside)) (one_rises table n h _ (head inside) later)
    ]

-- the items are the heads, in order
pub are_symbols : (table : List ℕ) → AreSymbolsOf table (symbols_in table)
are_symbols table =
    let n = length table / 18 in
    let whole : n - 0 ≡ n = omega arith in
    let found = subst (λ (m : ℕ). Rise table n 0 (symbols_from m 0 table 0)) whole (rise n table n 0 (omega arith) first) in
    record { each = found.each; all = head_contained table n; order = found.order }

-- no more come than there are records left
pub symbols_most : (m k : ℕ) (table : List ℕ) (i : ℕ) → length (symbols_from m k table i) ≤ m
unfolding symbols_from
symbols_most zero k table i = omega arith
symbols_most (suc m) zero table i = omega (arith, symbols_most m (aux table i) table (i + 1))
symbols_most (suc m) (suc k) table i = omega (arith, symbols_most m k table (i + 1))
