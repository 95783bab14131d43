-- The words of a block, one by one.
use Rattle.std.proofs.Common.{◌≡◌, ℕ, ◌+◌, ◌-◌, ◌/◌, ◌%◌, ◌<◌, ◌≤◌, List, [], ◌∷◌, length, drop, take, ◌∙◌, inl, inr, arith, Ok, Err, length-drop}
use Rattle.std.proofs.lemmas.Bool.{cases_lt}
use Rattle.goblin_base.specs.declared.endian.Endian.TheVariants.{Little}
use Rattle.goblin_base.specs.declared.error.ErrorOf.TheVariants.{Read}
use Rattle.goblin_base.specs.declared.error.ReadFault.TheVariants.{TooBig}
use Rattle.goblin_base.proofs.RecordItems.{length-record_items, record_items-more, record_items-none, record_items-rest, rest_item-none, rest_item-one}
use Rattle.goblin_pe_sect.specs.BaseRelocations.{RelocationWord, word_items, word_record}

-- a pair of bytes comes first, then those after it
pub words_more : (bytes : List ℕ) → 2 ≤ length bytes → word_items bytes ≡ Ok (word_record Little (take 2 bytes)) ∷ word_items (drop 2 bytes)
unfolding word_items
words_more bytes le =
    let left = length-drop 2 bytes in
    record_items-more 2 ((length bytes - 2) / 2) (word_record Little) bytes (omega (arith, le)) (omega (arith, left)) (omega (arith, left, le))

-- one byte is one error
pub words_rest : (bytes : List ℕ) → 0 < length bytes → length bytes < 2 → word_items bytes ≡ Err (Read TooBig) ∷ []
unfolding word_items
words_rest bytes some few = record_items-rest 2 (word_record Little) bytes (omega (arith, few)) (omega (arith, some, few))

-- no bytes have no words
pub words_none : (bytes : List ℕ) → length bytes ≡ 0 → word_items bytes ≡ []
unfolding word_items
words_none bytes e = record_items-none 2 (word_record Little) bytes (omega (arith, e)) (omega (arith, e))

-- how many items come: half of the bytes, rounded up
pub length_words : (bytes : List ℕ) → length (word_items bytes) ≡ (length bytes + 1) / 2
unfolding word_items
length_words bytes =
    let whole = length-record_items 2 (word_record Little) bytes in
    let over = length bytes % 2 in
    elim (cases_lt 0 over) [
      | inl some ↦ whole ∙ omega (arith, rest_item-one RelocationWord over some, some)
      | inr none ↦ whole ∙ omega (arith, rest_item-none RelocationWord over (omega (arith, none)), none)
    ]

pub ruleset words = (words_more, words_rest, words_none)
