-- The base relocations of an image: the bytes of their directory, the blocks of the directory, and
-- the words of a block.
use Rattle.std.specs.Prelude.{◌≡◌, ◌≤◌, ◌<◌, ℕ, zero, suc, ◌+◌, ◌-◌, min, nat_lt, if◌then◌else◌}
use Rattle.std.specs.Prelude.{List, [], ◌∷◌, ◌++◌, length, map, flat_map, slice_range, Option, Some}
use Rattle.std.specs.Prelude.{None, Result, Ok, Err}
use Rattle.goblin_base.specs.declared.endian.Endian.{Endian}
use Rattle.goblin_base.specs.declared.endian.Endian.TheVariants.{Little}
use Rattle.goblin_base.specs.declared.error.ErrorOf.{ErrorOf}
use Rattle.goblin_base.specs.{declared.error.ReadFault.TheVariants.TooBig, Tables.record_items}
use Rattle.goblin_base.specs.declared.error.CauseOf.TheVariants.{BlockRange, BlockSize}
use Rattle.goblin_base.specs.declared.error.ErrorOf.TheVariants.{Malformed, Read}
use Rattle.goblin_base.specs.Bytes.{IsBytes, number, slice_at}
use Rattle.goblin_base.specs.Record.{FieldValue, encoding}
use Rattle.goblin_base.specs.Record.FieldValue.{octets, uint}
use Rattle.goblin_pe_sect.specs.declared.relocation.base as base
use base.{RelocationBlock.RelocationBlock, RelocationBlockIterator.RelocationBlockIterator}
use base.{RelocationData.RelocationData, RelocationWordIterator.RelocationWordIterator}
pub use base.RelocationWord.{RelocationWord}

-- Source: PE Format, "The .reloc Section (Image Only)".

-- the bytes of a directory that was read
abbrev pub relocation_bytes : RelocationData → List ℕ
relocation_bytes relocations = relocations.bytes.now

-- ---- blocks

-- a block, with the bytes of its words
pub record Block : Type 0 where
  pub rva : ℕ
  pub size : ℕ
  pub words : List ℕ

-- what contracts see of a block, and of a block or an error
abbrev pub block_value : RelocationBlock → Block
block_value b = record { rva = b.rva; size = b.size; words = b.bytes.now }

abbrev pub block_item : Result RelocationBlock ErrorOf → Result Block ErrorOf
block_item (Ok b) = Ok (block_value b)
block_item (Err e) = Err e

-- the block with this header and these words, which begin at p; if the words are missing, the error
abbrev pub with_words : List ℕ → ℕ → Option (List ℕ) → Result Block ErrorOf
with_words head p (Some words) =
    Ok (record { rva = number Little 4 head 0; size = number Little 4 head 4; words = words })
with_words head p None = Err (Malformed (BlockRange p (number Little 4 head 4 - 8)))

-- the block with this header, whose words begin at p; if the header is missing or its size is below
-- 8, the error
abbrev pub with_head : List ℕ → ℕ → Option (List ℕ) → Result Block ErrorOf
with_head directory p (Some head) =
    if nat_lt (number Little 4 head 4) 8
    then Err (Malformed (BlockSize (number Little 4 head 4)))
    else with_words head p (slice_at directory p (number Little 4 head 4 - 8))
with_head directory p None = Err (Read TooBig)

-- the block at p of a directory: a header of eight bytes with the address and the size, and then
-- the words up to that size; or the error
unfoldable pub block_at : List ℕ → ℕ → Result Block ErrorOf
block_at directory p = with_head directory (p + 8) (slice_at directory p 8)

-- an item; if it is a block, the items from its end on follow
abbrev pub then_items : (ℕ → List (Result Block ErrorOf)) → ℕ → Result Block ErrorOf
    → List (Result Block ErrorOf)
then_items items p (Ok b) = Ok b ∷ items (p + b.size)
then_items items p (Err e) = Err e ∷ []

-- the items of a directory from p on, at most n of them: blocks, and then one error if the last
-- bytes are not a block
unfoldable pub first_items : ℕ → List ℕ → ℕ → List (Result Block ErrorOf)
first_items zero directory p = []
first_items (suc n) directory p =
    if nat_lt p (length directory)
    then then_items (first_items n directory) p (block_at directory p)
    else []

-- all items of a directory from p on; each item has at least one byte
abbrev pub block_items : List ℕ → ℕ → List (Result Block ErrorOf)
block_items directory p = first_items (length directory - p) directory p

-- What a call finds at p of a directory: nothing if no items follow, else the next item. If that is
-- a block, the items from its end on follow.
abbrev pub FindsItem : List ℕ → ℕ → Option (Result RelocationBlock ErrorOf) → Type 0
FindsItem directory p None = block_items directory p ≡ []
FindsItem directory p (Some found) =
    block_items directory p ≡ then_items (block_items directory) p (block_item found)

-- the items that an iterator over blocks has yet to yield
abbrev pub blocks_left : RelocationBlockIterator → List (Result Block ErrorOf)
blocks_left it = block_items it.bytes.now it.offset

-- ---- blocks, defined by the bytes of their directory

-- this block is at p of a directory: its size covers at least its header, all of it is there, and a
-- byte follows a block of size 8
pub record IsBlockAt (directory : List ℕ) (p : ℕ) (b : Block) : Type 0 where
  pub large : 8 ≤ b.size
  pub within : p + b.size ≤ length directory
  pub after : b.size ≡ 8 → p + 8 < length directory
  pub rva : number Little 4 directory p ≡ b.rva
  pub size : number Little 4 directory (p + 4) ≡ b.size
  pub words : slice_range directory (p + 8) (p + b.size) ≡ b.words

-- these blocks are consecutive in a directory, from p up to `end`
abbrev pub AreBlocks : List ℕ → ℕ → List Block → ℕ → Type 0
AreBlocks directory p [] end = end ≡ p
AreBlocks directory p (b ∷ blocks) end =
    IsBlockAt directory p b × AreBlocks directory (p + b.size) blocks end

-- the fields of a block, in order
abbrev pub block_fields : Block → List FieldValue
block_fields b = uint 4 b.rva ∷ uint 4 b.size ∷ octets b.words ∷ []

-- The items are the longest list of consecutive blocks at the front of the directory, and then one
-- error if bytes are left over after the blocks. The encodings of the blocks, joined, are that
-- front.
pub record AreBlocksOf (directory : List ℕ) (items : List (Result Block ErrorOf)) : Type 0 where
  pub blocks : List Block
  pub end : ℕ
  pub errors : List ErrorOf
  pub are : items ≡ map (λ b. Ok b) blocks ++ map (λ e. Err e) errors
  pub one : length errors ≡ min 1 (length directory - end)
  pub stand : AreBlocks directory 0 blocks end
  pub longest : (others : List Block) (to : ℕ) → AreBlocks directory 0 others to
      → (more : List Block) × (blocks ≡ others ++ more)
  pub encoded : IsBytes directory
      → flat_map (λ b. encoding Little (block_fields b)) blocks ≡ slice_range directory 0 end

-- ---- words

-- the word in 2 bytes
abbrev pub word_record : Endian → List ℕ → RelocationWord
word_record endian bytes = record {
  value = number endian 2 bytes 0;
}

-- the fields of a word, in order
abbrev pub word_fields : RelocationWord → List FieldValue
word_fields r = uint 2 r.value ∷ []

-- the words of a block: its whole pairs of bytes, and then one error if a byte is left over
unfoldable pub word_items : List ℕ → List (Result RelocationWord ErrorOf)
word_items bytes = record_items 2 (word_record Little) bytes

-- the words that an iterator over words has yet to yield, and the error, if one comes last
abbrev pub words_left : RelocationWordIterator → List (Result RelocationWord ErrorOf)
words_left it = word_items it.bytes.now
