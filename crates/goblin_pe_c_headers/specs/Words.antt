-- The base relocations of a block, as a call gives them.
use Rattle.std.specs.Prelude.{◌≡◌, ℕ, ◌+◌, ◌*◌, ◌/◌, ◌%◌, ◌^◌, List, drop, length, min, take, Some}
use Rattle.goblin_base.specs.{declared.endian.Endian.TheVariants.Little, Tables.records_in}
use Rattle.goblin_pe_sect.specs.BaseRelocations.{word_record}
use Rattle.goblin_pe_sect.specs.declared.relocation.base.RelocationWord.{RelocationWord}
use Rattle.goblin_pe_c_headers.specs.Onward.{PeBatch, Batch, FillsRows, Table, unrefused}
use Rattle.goblin_pe_c_headers.specs.declared.cursor.PeBaseRelocationCursor.{PeBaseRelocationCursor}
use Rattle.goblin_pe_c_headers.specs.declared.word.PeBaseRelocation.{PeBaseRelocation}

-- the row of a word of a block for the page at this address: its type in the high four bits, and in
-- the low twelve the offset in the page
abbrev pub word_for_c : ℕ → RelocationWord → PeBaseRelocation
word_for_c page word = record {
  rva = (page + word.value % 4096) % 2 ^ 64;
  typ = word.value / 4096;
  reserved = 0;
}

-- the rows of these bytes of a block for the page at this address; a byte that is left is none
abbrev pub words_for_c : ℕ → List ℕ → List PeBaseRelocation
words_for_c page words = records_in 2 (λ bytes. word_for_c page (word_record Little bytes)) words

-- the words of a block from a cursor on, as far as the file has them
abbrev pub block_words : List ℕ → PeBaseRelocationCursor → List ℕ
block_words bytes c = drop c.offset (take (min c.end (length bytes)) bytes)

abbrev pub word_table : List ℕ
    → Table PeBaseRelocationCursor PeBaseRelocation PeBaseRelocation PeBaseRelocation
word_table bytes = record {
  view = λ w. w;
  value_of = λ w. w;
  from = λ c. Some (unrefused (words_for_c c.page_rva (block_words bytes c)));
}

-- The rows hold the words from the cursor on, which then is after them.
abbrev pub GivesWords : List ℕ → Batch PeBaseRelocationCursor PeBaseRelocation
    → Batch PeBaseRelocationCursor PeBaseRelocation → PeBatch → Type 0
GivesWords bytes old new batch =
    FillsRows (word_table bytes)
    (new.position ≡ record (old.position) { offset = old.position.offset + 2 * batch.count })
    old new batch
