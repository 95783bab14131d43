-- What a walk over a table of slots collects is what the table keeps.
use Rattle.std.proofs.Common.{◌≡◌, ◌≤◌, ℕ, zero, suc, Bool, true, false, cond, List, [], ◌∷◌, ◌++◌, map, length, Option, Some, None, refl, sym, ap, subst, ◌∙◌, add-one, ◌+◌, append-nil, arith, ◌⊎◌, inl, inr, ◌&&◌, not, option_and_then, option_map, is_some}
use Rattle.std.specs.List.{filter, range_with_len}
use Rattle.std.proofs.{lemmas.List.FromFn.map-range_with_len_more, lemmas.List.map-append}
use Rattle.std.proofs.{lemmas.List.map-id, lemmas.List.Elements.filter-append}
use Rattle.goblin_base.specs.Answers.{all_of}
use Rattle.goblin_base.specs.Tables.{concat_below, each_below, is_kept, join}
use Rattle.goblin_base.proofs.{Below.join-none, Kept.without_test, Steps.same_value}
use Rattle.readings.specs.{Reads.with_slots, Walks.end_items, Walks.items_of, Walks.until_refused}

-- ---- the values of a list, where each is there

-- a value before others, where they are there
abbrev before : {A : Type 0} → A → Option (List A) → Option (List A)
before x rest = option_and_then (λ others. Some (x ∷ others)) rest

join-first : {A : Type 0} (x : A) (xs ys : Option (List A))
    → before x (join xs ys) ≡ join (before x xs) ys
join-first x None ys = refl
join-first x (Some xs) None = refl
join-first x (Some xs) (Some ys) = refl

join-nil : {A : Type 0} (ys : Option (List A)) → ys ≡ join (Some []) ys
join-nil None = refl
join-nil (Some ys) = refl

pub all_of-append : {A : Type 0} (xs ys : List (Option A))
    → all_of (xs ++ ys) ≡ join (all_of xs) (all_of ys)
all_of-append [] ys = join-nil (all_of ys)
all_of-append (None ∷ xs) ys = refl
all_of-append (Some x ∷ xs) ys =
    ap (before x) (all_of-append xs ys) ∙ join-first x (all_of xs) (all_of ys)

pub all_of-until : {A : Type 0} (items : List (Option A))
    → all_of (until_refused items) ≡ all_of items
all_of-until [] = refl
all_of-until (None ∷ items) = refl
all_of-until (Some x ∷ items) = ap (before x) (all_of-until items)

pub all_of-made : {A B : Type 0} (item : A → B) (xs : List A)
    → all_of (map (λ x. Some (item x)) xs) ≡ Some (map item xs)
all_of-made item [] = refl
all_of-made item (x ∷ xs) = ap (before (item x)) (all_of-made item xs)

pub all_of-items : {A B : Type 0} (item : A → B) (made : Option (List A))
    → all_of (items_of item made) ≡ option_map (map item) made
all_of-items item None = refl
all_of-items item (Some xs) = all_of-made item xs

-- with the end of a table, where it is needed
pub joined-end : {V B : Type 0} (needed : Bool) (end : Option V) (items : Option (List B))
    → join items (all_of (end_items needed end)) ≡ cond (needed && not (is_some end)) None items
joined-end true None None = refl
joined-end true None (Some xs) = refl
joined-end true (Some v) None = refl
joined-end {B = B} true (Some v) (Some xs) = ap (λ (ys : List B). Some ys) (append-nil xs)
joined-end false end None = refl
joined-end {B = B} false end (Some xs) = ap (λ (ys : List B). Some ys) (append-nil xs)

pub range-next : (n : ℕ) → range_with_len 0 (suc n) ≡ range_with_len 0 n ++ n ∷ []
range-next n =
    ap (range_with_len 0) (sym (add-one n)) ∙ sym (map-id (range_with_len 0 (n + 1)))
    ∙ map-range_with_len_more (λ (i : ℕ). i) 0 n n (omega arith)
    ∙ ap (λ (ns : List ℕ). ns ++ n ∷ []) (map-id (range_with_len 0 n))

-- the items of one slot more
all_of-next : {A B : Type 0} (item : ℕ → A → B) (made : ℕ → Option (List A)) (n : ℕ)
    (o : Option (List A)) → made n ≡ o
    → all_of (concat_below (λ i. items_of (item i) (made i)) (suc n))
    ≡ join (all_of (concat_below (λ i. items_of (item i) (made i)) n)) (option_map (map (item n)) o)
all_of-next {B = B} item made n o is =
    let all = concat_below (λ i. items_of (item i) (made i)) n in
    all_of-append all (items_of (item n) (made n))
    ∙ ap (λ (o : Option (List B)). join (all_of all) o)
    (all_of-items (item n) (made n) ∙ ap (option_map (map (item n))) is)

-- which numbers have pieces that keep something, with one number more
pub kept-next : {A : Type 0} (made : ℕ → Option (List A)) (n : ℕ) (o : Option (List A)) → made n ≡ o
    → filter (λ i. is_kept (made i)) (range_with_len 0 (suc n))
    ≡ filter (λ i. is_kept (made i)) (range_with_len 0 n) ++ cond (is_kept o) (n ∷ []) []
kept-next {A} made n o is =
    let kept : ℕ → List ℕ = λ (m : ℕ). filter (λ i. is_kept (made i)) (range_with_len 0 m) in
    ap (filter (λ i. is_kept (made i))) (range-next n)
    ∙ filter-append (λ i. is_kept (made i)) (range_with_len 0 n) (n ∷ [])
    ∙ ap (λ (o : Option (List A)). kept n ++ cond (is_kept o) (n ∷ []) []) is

-- ---- the items of the slots before the stop

-- Collected from the slots before one, they are none where the table has none, and else what it
-- keeps, with the slots that it keeps.
module _ {A B : Type 0} (item : ℕ → A → B) (entry : B → A) (slot : B → ℕ)
    (made : ℕ → Option (List A))
    (few : (i : ℕ) (xs : List A) → made i ≡ Some xs → length xs ≤ 1)
    (entries : (i : ℕ) (x : A) → entry (item i x) ≡ x)
    (slots : (i : ℕ) (x : A) → slot (item i x) ≡ i) where
  abbrev all : ℕ → List (Option B)
  all n = concat_below (λ i. items_of (item i) (made i)) n

  abbrev kept : ℕ → List ℕ
  kept n = filter (λ i. is_kept (made i)) (range_with_len 0 n)

  record Collected (n : ℕ) : Type 0 where
    items : List B
    are : all_of (all n) ≡ Some items
    table : each_below made n ≡ Some (map entry items)
    rows : kept n ≡ map slot items

  abbrev IsCollected : ℕ → Type 0
  IsCollected n =
      Collected n ⊎ ((all_of (all n) ≡ None) × (each_below made n ≡ None))

  -- one slot further
  more : (n : ℕ) (c : Collected n) (o : Option (List A)) → made n ≡ o → IsCollected (suc n)
  more n c None is =
      inr (all_of-next item made n None is ∙ join-none (all_of (all n)), ap (join (each_below made n)) is ∙ join-none (each_below made n))
  more n c (Some []) is =
      inl
      (record {
        items = c.items ++ [];
        are = all_of-next item made n (Some []) is
            ∙ ap (λ (o : Option (List B)). join o (Some [])) c.are;
        table = rw (c.table, is)
            (ap (λ (xs : List A). Some xs) (sym (map-append entry c.items [])));
        rows = kept-next made n (Some []) is ∙ ap (λ (xs : List ℕ). xs ++ []) c.rows
            ∙ sym (map-append slot c.items []);
      })
  more n c (Some (x ∷ [])) is =
      inl
      (record {
        items = c.items ++ item n x ∷ [];
        are = all_of-next item made n (Some (x ∷ [])) is
            ∙ ap (λ (o : Option (List B)). join o (Some (item n x ∷ []))) c.are;
        table = rw (c.table, is)
            (ap (λ (y : A). Some (map entry c.items ++ y ∷ [])) (sym (entries n x))
            ∙ ap (λ (xs : List A). Some xs) (sym (map-append entry c.items (item n x ∷ []))));
        rows = kept-next made n (Some (x ∷ [])) is ∙ ap (λ (xs : List ℕ). xs ++ n ∷ []) c.rows
            ∙ ap (λ (i : ℕ). map slot c.items ++ i ∷ []) (sym (slots n x))
            ∙ sym (map-append slot c.items (item n x ∷ []));
      })
  more n c (Some (x ∷ y ∷ xs)) is = absurd (omega (arith, few n (x ∷ y ∷ xs) is))

  collected : (n : ℕ) → IsCollected n
  collected zero = inl (record { items = []; are = refl; table = refl; rows = refl })
  collected (suc n) =
      elim (collected n) [
        | inl c ↦ more n c (made n) refl
        | inr none ↦
            inr (
              all_of-next item made n (made n) refl
                  ∙ ap (λ (o : Option (List B)). join o (option_map (map (item n)) (made n))) none.0,
              ap (λ (o : Option (List A)). join o (made n)) none.1,
            )
      ]

  abbrev in_pair : List B → List A × List ℕ
  in_pair items = (map entry items, map slot items)

  by_test : (test : Bool) (n : ℕ) → IsCollected n
      → option_map in_pair (cond test None (all_of (all n)))
      ≡ with_slots (kept n) (cond test None (each_below made n))
  by_test true n c = refl
  by_test false n (inl c) = rw (c.are, c.table, c.rows) refl
  by_test false n (inr none) = rw (none.0, none.1) refl

  -- with the end of the table, where it is needed
  pub walk-value : {V : Type 0} (needed : Bool) (end : Option V) (n : ℕ)
      → option_map in_pair (all_of (until_refused (all n ++ end_items needed end)))
      ≡ with_slots (kept n) (cond (needed && not (is_some end)) None (each_below made n))
  walk-value needed end n =
      ap (option_map in_pair)
      (all_of-until (all n ++ end_items needed end)
      ∙ all_of-append (all n) (end_items needed end)
      ∙ joined-end needed end (all_of (all n)))
      ∙ by_test (needed && not (is_some end)) n (collected n)

-- ---- what holds of the items that are collected

module _ {A B : Type 0} (item : ℕ → A → B) (made : ℕ → Option (List A)) (Holds : List B → Type 0)
    (none : Holds [])
    (more : (n : ℕ) (items : List B) (xs : List A) → made n ≡ Some xs → Holds items
    → Holds (items ++ map (item n) xs)) where
  abbrev walked : ℕ → List (Option B)
  walked n = concat_below (λ i. items_of (item i) (made i)) n

  joined : (n : ℕ) (first : Option (List B)) (o : Option (List A)) (items : List B)
      → ((xs : List B) → first ≡ Some xs → Holds xs) → made n ≡ o
      → join first (option_map (map (item n)) o) ≡ Some items → Holds items
  joined n None o items earlier is e = absurd cc
  joined n (Some ys) None items earlier is e = absurd cc
  joined n (Some ys) (Some xs) items earlier is e =
      subst Holds (same_value (ys ++ map (item n) xs) items e) (more n ys xs is (earlier ys refl))

  pub below-holds : (n : ℕ) (items : List B) → all_of (walked n) ≡ Some items → Holds items
  below-holds zero items e = subst Holds (same_value [] items e) none
  below-holds (suc n) items e =
      joined n (all_of (walked n)) (made n) items (below-holds n) refl
      (sym (all_of-next item made n (made n) refl) ∙ e)

  by_end : {V : Type 0} (needed : Bool) (end : Option V) (o : Option (List B)) (items : List B)
      → join o (all_of (end_items needed end)) ≡ Some items → o ≡ Some items
  by_end needed end o items e =
      without_test (needed && not (is_some end)) o items (sym (joined-end needed end o) ∙ e)

  pub walk-holds : {V : Type 0} (needed : Bool) (end : Option V) (n : ℕ) (items : List B)
      → all_of (until_refused (walked n ++ end_items needed end)) ≡ Some items → Holds items
  walk-holds needed end n items e =
      below-holds n items
      (by_end needed end (all_of (walked n)) items
      (sym (all_of-until (walked n ++ end_items needed end)
      ∙ all_of-append (walked n) (end_items needed end))
      ∙ e))
