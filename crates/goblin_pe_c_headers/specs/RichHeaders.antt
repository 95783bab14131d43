-- The entries of a Rich header, as a call gives them.
use Rattle.std.specs.Prelude.{◌≡◌, ℕ, ◌+◌, ◌-◌, ◌/◌, ◌<◌, ◌%◌, ◌==◌, ◌&&◌, not, nat_le, Bool, List}
use Rattle.std.specs.Prelude.{[], drop, ◌∷◌, ◌^◌, length, None, Option, Some, IfSome, IsSomeAnd}
use Rattle.std.specs.Prelude.{Result, Ok, Err, true}
use Rattle.goblin_base.specs.declared.error.ErrorOf.{ErrorOf}
use Rattle.goblin_base.specs.declared.error.ErrorOf.TheVariants.{Read}
use Rattle.goblin_base.specs.{declared.error.ReadFault.TheVariants.TooBig, Answers.FirstFault}
use Rattle.goblin_base.specs.{Bytes.IsBytes, Reading.Reading}
use Rattle.readings.specs.Reads.{given, pick, slice_at}
use Rattle.goblin_pe_head.specs.{declared.header.rich.RichMetadata.RichMetadata, PeHeader.PeHeader}
use Rattle.goblin_pe_head.specs.{RichHeader.Rich, RichMetadata.metadata_items}
use Rattle.goblin_pe_head.specs.HeaderReadings.{pe_header, rich_header}
use Rattle.goblin_pe_c_headers.specs.Onward.{PeBatch}
use Rattle.goblin_pe_c_headers.specs.{Images.PeImage, declared.image.PeRichHeader.PeRichHeader}
use Rattle.goblin_pe_c_headers.specs.{ImageRecords.no_rich_header, Items.without_causes}
use Rattle.goblin_pe_c_headers.specs.Onward.{Batch, FillsRows, IsRefusedNext, Table, no_batch}

-- the entries, as stored: what lies between the padding and the marker Rich
abbrev pub rich_stretch : PeRichHeader → Reading (List ℕ)
rich_stretch r =
    let begin = r.start_offset + 4 + r.padding_size in
    pick (nat_le r.end_offset begin) (given []) (slice_at begin (r.end_offset - begin))

-- bytes that are no whole entry are at this index
abbrev pub is_rest : List ℕ → ℕ → Bool
is_rest stretch i = (length stretch / 8 == i) && not (length stretch % 8 == 0)

-- the entries from an index on, and at last perhaps a refusal
abbrev pub entries_from : ℕ → List ℕ → ℕ → List (Option RichMetadata)
entries_from key stretch i = drop i (without_causes (metadata_items key stretch))

abbrev pub rich_table : ℕ → List ℕ → Table ℕ RichMetadata RichMetadata RichMetadata
rich_table key stretch =
    record { view = λ r. r; value_of = λ r. r; from = λ i. Some (entries_from key stretch i) }

-- The records hold the entries from the old index on, and from the new one on come the others.
abbrev pub GivesEntriesOf : ℕ → List ℕ → Batch ℕ RichMetadata → Batch ℕ RichMetadata → PeBatch
    → Type 0
GivesEntriesOf key stretch old new batch =
    FillsRows (rich_table key stretch) (new.position ≡ old.position + batch.count) old new batch

-- the next bytes are no whole entry, and there is room for one
abbrev pub IsRefusedEntry : ℕ → List ℕ → Batch ℕ RichMetadata → ErrorOf → Type 0
IsRefusedEntry key stretch old e =
    (0 < length old.records) × IsRefusedNext (entries_from key stretch old.position)
    × (e ≡ Read TooBig)

-- A call has given the entries of an image's Rich header that come next; or they are not there, or
-- the next bytes are no whole entry, and nothing else is changed than what is said.
abbrev pub GivesEntries : PeImage → Batch ℕ RichMetadata → Batch ℕ RichMetadata → PeBatch
    → Result Unit ErrorOf → Type 0
GivesEntries image old new batch (Ok x) =
    IsSomeAnd ((rich_stretch image.rich_header).value image.bytes.now)
    (λ stretch. GivesEntriesOf image.rich_header.key stretch old new batch)
GivesEntries image old new batch (Err e) =
    FirstFault ((rich_stretch image.rich_header).value image.bytes.now)
    ((rich_stretch image.rich_header).IsCause image.bytes.now)
    (λ stretch. IsRefusedEntry image.rich_header.key stretch old) e
    × (new ≡ old) × (batch ≡ no_batch)

-- ---- a Rich header that was read

-- where a Rich header is, if there is one; the padding of one that was read has 32 bits
abbrev pub rich_of : Option Rich → PeRichHeader
rich_of None = no_rich_header
rich_of (Some r) = record {
  key = r.key;
  start_offset = r.start_offset;
  end_offset = r.end_offset;
  padding_size = r.padding_size % 2 ^ 32;
  is_present = true;
  reserved = 0 ∷ 0 ∷ 0 ∷ [];
}

-- The size of the padding has 32 bits, and the record leads to what follows the padding: so the
-- walk gives the entries of this header.
pub record IsWalked (bytes : List ℕ) (r : Rich) : Type 0 where
  pub padding : r.padding_size < 2 ^ 32
  pub entries : (rich_stretch (rich_of (Some r))).value bytes
      ≡ Some (drop r.padding_size r.bytes)

-- The walk over the Rich header that is found in a file gives its entries.
unfoldable pub RichIsWalked : Type 0
RichIsWalked =
    (bytes : List ℕ) (r : Rich) → IsBytes bytes → rich_header.value bytes ≡ Some (Some r)
    → IsWalked bytes r

-- The same of the Rich header of a header that is read.
unfoldable pub HeaderIsWalked : Type 0
HeaderIsWalked =
    (strict : Bool) (bytes : List ℕ) (h : PeHeader) → IsBytes bytes
    → (pe_header strict).value bytes ≡ Some h → IfSome h.rich_header (IsWalked bytes)
