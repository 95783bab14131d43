-- The entries of a Rich header, one by one.
use Rattle.std.proofs.Common.{◌≡◌, ℕ, ◌+◌, ◌-◌, ◌/◌, ◌%◌, ◌<◌, ◌≤◌, List, [], ◌∷◌, length, drop, take, ◌∙◌, inl, inr, arith, Ok, Err, length-drop}
use Rattle.std.proofs.lemmas.Bool.{cases_lt}
use Rattle.goblin_base.specs.declared.error.ErrorOf.TheVariants.{Read}
use Rattle.goblin_base.specs.declared.error.ReadFault.TheVariants.{TooBig}
use Rattle.goblin_base.proofs.RecordItems.{length-record_items, record_items-more, record_items-none, record_items-rest, rest_item-none, rest_item-one}
use Rattle.goblin_pe_head.specs.RichMetadata.{RichMetadata, metadata_at, metadata_items}

-- a whole entry comes first, then those after it
pub items_more : (key : ℕ) (bytes : List ℕ) → 8 ≤ length bytes → metadata_items key bytes ≡ Ok (metadata_at key (take 8 bytes) 0) ∷ metadata_items key (drop 8 bytes)
unfolding metadata_items
items_more key bytes le =
    let left = length-drop 8 bytes in
    record_items-more 8 ((length bytes - 8) / 8) (λ entry. metadata_at key entry 0) bytes (omega (arith, le)) (omega (arith, left)) (omega (arith, left, le))

-- a shorter rest is one refusal
pub items_rest : (key : ℕ) (bytes : List ℕ) → 0 < length bytes → length bytes < 8 → metadata_items key bytes ≡ Err (Read TooBig) ∷ []
unfolding metadata_items
items_rest key bytes some few = record_items-rest 8 (λ entry. metadata_at key entry 0) bytes (omega (arith, few)) (omega (arith, some, few))

-- no bytes have no entries
pub items_none : (key : ℕ) (bytes : List ℕ) → length bytes ≡ 0 → metadata_items key bytes ≡ []
unfolding metadata_items
items_none key bytes e = record_items-none 8 (λ entry. metadata_at key entry 0) bytes (omega (arith, e)) (omega (arith, e))

-- how many items come: an eighth of the bytes, rounded up
pub length_items : (key : ℕ) (bytes : List ℕ) → length (metadata_items key bytes) ≡ (length bytes + 7) / 8
unfolding metadata_items
length_items key bytes =
    let whole = length-record_items 8 (λ entry. metadata_at key entry 0) bytes in
    let over = length bytes % 8 in
    elim (cases_lt 0 over) [
      | inl some ↦ whole ∙ omega (arith, rest_item-one RichMetadata over some, some)
      | inr none ↦ whole ∙ omega (arith, rest_item-none RichMetadata over (omega (arith, none)), none)
    ]

pub ruleset items = (items_more, items_rest, items_none)
