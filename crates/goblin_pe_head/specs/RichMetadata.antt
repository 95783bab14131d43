-- The entries of a Rich header, and what is read and written of an entry.
use Rattle.std.specs.Prelude.{◌≡◌, ◌⊎◌, ◌+◌, ◌*◌, ◌/◌, ◌%◌, ◌++◌, ℕ, map, flat_map, List, [], ◌∷◌}
use Rattle.std.specs.Prelude.{length, Result, Ok}
use Rattle.std.specs.Int.Bits.{bit_xor}
use Rattle.goblin_base.specs.declared.endian.Endian.{Endian}
use Rattle.goblin_base.specs.declared.endian.Endian.TheVariants.{Little}
use Rattle.goblin_base.specs.{declared.error.ErrorOf.ErrorOf, Bytes.number, Bytes.number_bytes}
use Rattle.goblin_base.specs.{Record.FieldValue, Record.uint, Tables.record_items, Tables.rest_item}
pub use Rattle.goblin_pe_head.specs.declared.header.rich.RichMetadata.{RichMetadata}
use Rattle.goblin_pe_head.specs.declared.header.rich.RichMetadataIterator.{RichMetadataIterator}
use Rattle.goblin_pe_head.specs.RichHeader.{word_at}

-- the entry in a record's 8 bytes, under no key
abbrev pub metadata_record : Endian → List ℕ → RichMetadata
metadata_record endian bytes = record {
  build = number endian 2 bytes 0;
  product = number endian 2 bytes 2;
  use_count = number endian 4 bytes 4;
}

-- the fields of an entry, in order
abbrev pub metadata_fields : RichMetadata → List FieldValue
metadata_fields m = uint 2 m.build ∷ uint 2 m.product ∷ uint 4 m.use_count ∷ []

-- the word at p without the key
abbrev pub word_under : ℕ → List ℕ → ℕ → ℕ
word_under key bytes p = bit_xor (word_at bytes p) key

-- the entry at p: the low half of its first word is the build, the high half the product, and its
-- second word is the use count
abbrev pub metadata_at : ℕ → List ℕ → ℕ → RichMetadata
metadata_at key bytes p = record {
  build = word_under key bytes p % 65536;
  product = word_under key bytes p / 65536;
  use_count = word_under key bytes (p + 4);
}

-- the consecutive entries of these bytes, and one refusal if the bytes left over are not a whole
-- entry
unfoldable pub metadata_items : ℕ → List ℕ → List (Result RichMetadata ErrorOf)
metadata_items key bytes = record_items 8 (λ entry. metadata_at key entry 0) bytes

-- what an iterator over the entries has left
abbrev pub metadata_left : RichMetadataIterator → List (Result RichMetadata ErrorOf)
metadata_left it = metadata_items it.key it.bytes.now

-- the bytes of an entry as they are stored: its two words, each under the key
abbrev pub stored_entry : ℕ → RichMetadata → List ℕ
stored_entry key m =
    number_bytes Little 4 (bit_xor (m.product * 65536 + m.build) key)
    ++ number_bytes Little 4 (bit_xor m.use_count key)

-- The items are entries, and then one refusal if there is a rest. The stored forms of the entries,
-- joined, and the rest are these bytes. The rest has no bytes or four.
pub record AreEntriesOf (key : ℕ) (bytes : List ℕ) (items : List (Result RichMetadata ErrorOf)) :
    Type 0 where
  pub entries : List RichMetadata
  pub rest : List ℕ
  pub are : items ≡ map Ok entries ++ rest_item (length rest)
  pub joined : bytes ≡ flat_map (stored_entry key) entries ++ rest
  pub short : (length rest ≡ 0) ⊎ (length rest ≡ 4)
