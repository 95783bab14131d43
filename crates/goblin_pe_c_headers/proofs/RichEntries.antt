-- The entries of a Rich header by their indexes, and the rest after them.
use Rattle.std.proofs.Common.{◌≡◌, ◌≢◌, ℕ, ◌+◌, ◌/◌, ◌%◌, ◌<◌, ◌≤◌, Bool, true, false, List, [], ◌∷◌, ◌++◌, length, map, drop, ap, refl, sym, arith, ◌∙◌, inl, inr, Result, Ok, Some, None, Option, ◌==◌, slice_get, drop_of_length-le}
use Rattle.std.proofs.lemmas.Bool.{cases_Bool, eqb-false, eqb-true}
use Rattle.std.proofs.lemmas.List.{drop-append-le, drop-map, length-append, length-map}
use Rattle.std.proofs.lemmas.Option.{slice_get_within}
use Rattle.goblin_base.specs.declared.error.ErrorOf.{ErrorOf}
use Rattle.goblin_base.specs.Tables.{record_items, records_in, rest_item}
use Rattle.goblin_base.proofs.RecordItems.{length-records_in}
use Rattle.goblin_pe_head.specs.declared.header.rich.RichMetadata.{RichMetadata}
use Rattle.goblin_pe_head.specs.RichMetadata.{metadata_at, metadata_items}
use Rattle.goblin_pe_c_headers.specs.{Items.without_causes, Onward.unrefused}
use Rattle.goblin_pe_c_headers.specs.RichHeaders.{entries_from, is_rest}
use Rattle.goblin_pe_c_headers.proofs.GivenOnward.{from-item, past-end}

-- ---- the entries, and a rest after them

without-refused : {A : Type 0} (xs : List A) (rest : List (Result A ErrorOf)) → without_causes (map (λ x. Ok x) xs ++ rest) ≡ unrefused xs ++ without_causes rest
without-refused [] rest = refl
without-refused {A} (x ∷ xs) rest = ap (λ (ys : List (Option A)). Some x ∷ ys) (without-refused xs rest)

-- what is left over
abbrev left_over : Bool → List (Option RichMetadata)
left_over true = []
left_over false = None ∷ []

left-over : (n : ℕ) → without_causes (rest_item {V = RichMetadata} n) ≡ left_over (n == 0)
left-over n = elim (cases_Bool (n == 0)) [
  | inl none ↦ rw none refl
  | inr some ↦ rw some refl
]

module _ (key : ℕ) (bytes : List ℕ) where
  abbrev pub entries : List RichMetadata
  entries = records_in 8 (λ (entry : List ℕ). metadata_at key entry 0) bytes

  abbrev rest : List (Option RichMetadata)
  rest = left_over (length bytes % 8 == 0)

  all-items : without_causes (metadata_items key bytes) ≡ unrefused entries ++ rest
  unfolding metadata_items record_items
  all-items =
      without-refused entries (rest_item (length bytes % 8))
      ∙ ap (λ (r : List (Option RichMetadata)). unrefused entries ++ r) (left-over (length bytes % 8))

  -- there are as many as fit
  pub entries_count : length entries ≡ length bytes / 8
  entries_count = length-records_in 8 (λ (entry : List ℕ). metadata_at key entry 0) bytes

  count : length (unrefused entries) ≡ length entries
  count = length-map entries (λ (e : RichMetadata). Some e)

  from-seam : (i : ℕ) → i ≤ length entries → entries_from key bytes i ≡ unrefused (drop i entries) ++ rest
  from-seam i le =
      ap (λ (xs : List (Option RichMetadata)). drop i xs) all-items ∙ drop-append-le i (unrefused entries) rest (omega (arith, le, count))
      ∙ ap (λ (xs : List (Option RichMetadata)). xs ++ rest) (drop-map (λ (e : RichMetadata). Some e) i entries)

  pub entries_more : (i : ℕ) (e : RichMetadata) → slice_get entries i ≡ Some e → entries_from key bytes i ≡ Some e ∷ entries_from key bytes (i + 1)
  entries_more i e is =
      let within = slice_get_within entries i e is in
      from-seam i (omega (arith, within)) ∙ ap (λ (xs : List RichMetadata). unrefused xs ++ rest) (from-item entries i e is)
      ∙ ap (λ (xs : List (Option RichMetadata)). Some e ∷ xs) (sym (from-seam (i + 1) (omega (arith, within))))

  from-end : (i : ℕ) → i ≡ length entries → entries_from key bytes i ≡ rest
  from-end i at =
      from-seam i (omega (arith, at)) ∙ ap (λ (xs : List RichMetadata). unrefused xs ++ rest) (drop_of_length-le entries (omega (arith, at)))

  from-past : (i : ℕ) → length entries < i → entries_from key bytes i ≡ []
  from-past i past =
      ap (λ (xs : List (Option RichMetadata)). drop i xs) all-items
      ∙ drop_of_length-le (unrefused entries ++ rest) (let fits = by (length bytes % 8 == 0) refl in omega (arith, fits, length-append (unrefused entries) rest))
    where
      by : (b : Bool) → (length bytes % 8 == 0) ≡ b → length (unrefused entries) + length rest ≤ i
      by true is = rw is (omega (arith, past, count))
      by false is = rw is (omega (arith, past, count))

  -- bytes that are no whole entry
  pub entries_rest : (i : ℕ) → is_rest bytes i ≡ true → entries_from key bytes i ≡ None ∷ []
  entries_rest i is = by (length bytes / 8 == i) (length bytes % 8 == 0) refl refl
    where
      by : (here whole : Bool) → (length bytes / 8 == i) ≡ here → (length bytes % 8 == 0) ≡ whole → entries_from key bytes i ≡ None ∷ []
      by true false at some = from-end i (let same : length bytes / 8 ≡ i = eqb-true _ _ at in omega (arith, same, entries_count)) ∙ rw some refl
      by true true at some = absurd (cc (is, at, some))
      by false whole at some = absurd (cc (is, at))

  -- and nothing
  pub entries_none : (i : ℕ) → slice_get entries i ≡ None → is_rest bytes i ≡ false → entries_from key bytes i ≡ []
  entries_none i none whole_end = by (length bytes / 8 == i) (length bytes % 8 == 0) refl refl
    where
      by : (here whole : Bool) → (length bytes / 8 == i) ≡ here → (length bytes % 8 == 0) ≡ whole → entries_from key bytes i ≡ []
      by true false at some = absurd (cc (whole_end, at, some))
      by true true at some = from-end i (let same : length bytes / 8 ≡ i = eqb-true _ _ at in omega (arith, same, entries_count)) ∙ rw some refl
      by false whole at some = from-past i (let other : length bytes / 8 ≢ i = eqb-false _ _ at in omega (arith, other, past-end entries i none, entries_count))
