-- The base relocations of a block from a cursor on.
use Rattle.std.proofs.Common.{append-nil, ◌≡◌, ◌∙◌, ◌≤◌, ℕ, zero, suc, ◌+◌, ◌*◌, ◌/◌, List, [], drop, length, min, take, refl, ap, arith, subst, sym, Option, Some, length-drop, length-take}
use Rattle.std.proofs.lemmas.List.{drop-drop}
use Rattle.goblin_base.specs.{declared.endian.Endian.TheVariants.Little, Tables.records_in}
use Rattle.goblin_base.proofs.RecordItems.{records_in-more, records_in-none}
use Rattle.goblin_pe_sect.specs.BaseRelocations.{word_record}
use Rattle.goblin_pe_c_headers.specs.Onward.{PeBatch, GivesOnward, unrefused, values_before}
use Rattle.goblin_pe_c_headers.specs.declared.cursor.PeBaseRelocationCursor.{PeBaseRelocationCursor}
use Rattle.goblin_pe_c_headers.specs.declared.word.PeBaseRelocation.{PeBaseRelocation}
use Rattle.goblin_pe_c_headers.specs.Words.{GivesWords, block_words, word_for_c, word_table, words_for_c}
use Rattle.goblin_pe_c_headers.proofs.Batches.{before-all, fills-by}

-- the records after some of them
records-dropped-by : {V : Type 0} (value : List ℕ → V) (n : ℕ) (xs : List ℕ) (k : ℕ) → length xs / 2 ≡ k
    → records_in 2 value (drop (2 * n) (drop 2 xs)) ≡ drop n (records_in 2 value (drop 2 xs))
    → records_in 2 value (drop (2 * suc n) xs) ≡ drop (suc n) (records_in 2 value xs)
records-dropped-by {V} value n xs zero none before =
    let past : length (drop (2 * suc n) xs) / 2 ≡ 0 = omega (arith, none, length-drop (2 * suc n) xs) in
    records_in-none 2 value (drop (2 * suc n) xs) past ∙ sym (ap (λ (vs : List V). drop (suc n) vs) (records_in-none 2 value xs none))
records-dropped-by {V} value n xs (suc m) some before =
    let rest : length (drop 2 xs) / 2 ≡ m = omega (arith, some, length-drop 2 xs) in
    let more : 2 + 2 * n ≡ 2 * suc n = omega arith in
    let here : drop (2 * suc n) xs ≡ drop (2 * n) (drop 2 xs) = sym (drop-drop (2 * n) 2 xs ∙ ap (λ (k : ℕ). drop k xs) more) in
    ap (λ (ys : List ℕ). records_in 2 value ys) here ∙ before
    ∙ sym (ap (λ (vs : List V). drop (suc n) vs) (records_in-more 2 m value xs some rest))

records-dropped : {V : Type 0} (value : List ℕ → V) (n : ℕ) (xs : List ℕ) → records_in 2 value (drop (2 * n) xs) ≡ drop n (records_in 2 value xs)
records-dropped value zero xs = refl
records-dropped value (suc n) xs = records-dropped-by value n xs (length xs / 2) refl (records-dropped value n (drop 2 xs))

-- no more are given than there are
pub given-few : {W : Type 0} (items : List W) (old new : List W) (n : ℕ) (batch : PeBatch)
    → GivesOnward items (record { position = 0; records = old }) (record { position = n; records = new }) batch → n ≤ length items
unfolding values_before
given-few {W} items old new n batch onward =
    let all = ap (λ (xs : List (Option W)). length (values_before xs)) (sym (append-nil (unrefused items))) ∙ ap (λ (xs : List W). length xs) (before-all items [] ∙ append-nil items) in
    let counted = onward.0.counted in
    let front = length-take batch.count (values_before (unrefused items)) in
    omega (arith, all, counted, front, onward.1.1.0)

-- what is given of the words from a cursor on is given of the block
pub words_given : (bytes : List ℕ) (c : PeBaseRelocationCursor) (old new : List PeBaseRelocation) (n : ℕ) (batch : PeBatch) (words : List ℕ) → words ≡ block_words bytes c
    → GivesOnward (words_for_c c.page_rva words) (record { position = 0; records = old }) (record { position = n; records = new }) batch
    → GivesWords bytes (record { position = c; records = old }) (record { position = record c { offset = c.offset + 2 * n }; records = new }) batch
words_given bytes c old new n batch words is onward =
    let items = words_for_c c.page_rva (block_words bytes c) in
    let moved : n ≡ batch.count = onward.1.1.0 ∙ omega arith in
    let given = subst (λ (w : List ℕ). GivesOnward (words_for_c c.page_rva w) (record { position = 0; records = old }) (record { position = n; records = new }) batch) is onward in
    let next : PeBaseRelocationCursor = record c { offset = c.offset + 2 * n } in
    let left = records-dropped (λ (word : List ℕ). word_for_c c.page_rva (word_record Little word)) n (block_words bytes c) in
    let there : (word_table bytes).from next ≡ Some (unrefused (drop n items)) =
    ap (λ (ws : List ℕ). Some (unrefused (words_for_c c.page_rva ws))) (sym (drop-drop (2 * n) c.offset (take (min c.end (length bytes)) bytes)))
    ∙ ap (λ (xs : List PeBaseRelocation). Some (unrefused xs)) left in (
      fills-by (λ w. w) (λ w. w) (λ (i : ℕ). Some (unrefused (drop i items))) (word_table bytes).from _ _ (unrefused items) (unrefused items) 0 n c next old new batch.count given.0 refl there (λ cut. cut)
          (λ none. ap (λ (o : ℕ). record c { offset = o }) (omega (arith, none))),
      (given.1.0, (ap (λ (k : ℕ). record c { offset = c.offset + 2 * k }) moved, given.1.1.1)),
    )
