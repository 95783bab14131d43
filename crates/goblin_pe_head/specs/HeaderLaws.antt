-- How headers that were read are written, which headers read back, and the places of the markers of
-- a Rich header.
use Rattle.std.specs.Prelude.{◌≡◌, ◌≤◌, ◌<◌, ℕ, ◌+◌, ◌-◌, ◌*◌, ◌^◌, ◌==◌, if◌then◌else◌, List, []}
use Rattle.std.specs.Prelude.{◌++◌, length, replicate, take, Option, Some, None, option_and_then}
use Rattle.std.specs.Prelude.{IfSome, IsSomeAnd, false, nat_lt, slice_index_or, slice_range, true}
use Rattle.std.specs.Int.Bits.{bit_xor}
use Rattle.goblin_base.specs.declared.endian.Endian.TheVariants.{Little}
use Rattle.goblin_base.specs.Bytes.{IsBytes, overwritten, slice_at}
use Rattle.goblin_base.specs.Record.{FieldsFit, ReadsBack, encoding}
use Rattle.goblin_pe_sect.specs.declared.data_directories.DataDirectory.{DataDirectory}
use Rattle.goblin_pe_sect.specs.DataDirectories.{directory_fields, directory_or_zeros, entry_ending}
use Rattle.goblin_pe_head.specs.DosHeader.{DosHeader, dos_fields}
use Rattle.goblin_pe_head.specs.OptionalHeader.{OptionalHeader, fields_size, optional_bytes}
use Rattle.goblin_pe_head.specs.OptionalHeader.{standard_32_fields, standard_32_record}
use Rattle.goblin_pe_head.specs.OptionalHeader.{standard_64_fields, standard_64_record}
use Rattle.goblin_pe_head.specs.OptionalHeader.{standard_to_32, standard_to_64, windows_32_fields}
use Rattle.goblin_pe_head.specs.OptionalHeader.{windows_32_record, windows_record_fields}
use Rattle.goblin_pe_head.specs.OptionalHeader.{windows_record, windows_to_32}
use Rattle.goblin_pe_head.specs.HeaderReadings.{dos_header, optional_header, pe_header, rich_header}
use Rattle.goblin_pe_head.specs.PeHeader.{PeHeader, header_bytes}
use Rattle.goblin_pe_head.specs.RichHeader.{Rich, word_at, rich_in}

-- The DOS header of a file is written as the first 64 bytes of the file.
unfoldable pub DosWritesBack : Type 0
DosWritesBack =
    (file : List ℕ) (h : DosHeader) → IsBytes file → dos_header.value file ≡ Some h
    → slice_at file 0 64 ≡ Some (encoding Little (dos_fields h))

-- the size in bytes of an optional header in its file: its fields in the width that the magic
-- gives, and as many data directories as they count
abbrev pub optional_size : OptionalHeader → ℕ
optional_size h =
    fields_size h.standard_fields.magic + 8 * h.windows_fields.number_of_rva_and_sizes

-- the zeros that are written after its data directories, up to the sixteenth
abbrev pub filling : OptionalHeader → List ℕ
filling h = replicate (8 * (16 - h.windows_fields.number_of_rva_and_sizes)) 0

-- An optional header that was read has `optional_size` bytes. It is written as these bytes,
-- followed by zeros for the missing data directories.
unfoldable pub OptionalWritesBack : Type 0
OptionalWritesBack =
    (bytes : List ℕ) (h : OptionalHeader) (n : ℕ) → IsBytes bytes
    → optional_header.value bytes ≡ Some (h, n)
    → (n ≡ optional_size h) × (n ≤ length bytes)
    × (optional_bytes Little h ≡ Some (take n bytes ++ filling h))

-- the file offset where a header ends: 24 bytes after the start of the signature or, if there is an
-- optional header, at its end
abbrev pub end_after : ℕ → Option OptionalHeader → ℕ
end_after p None = p + 24
end_after p (Some h) = p + 24 + optional_size h

abbrev pub header_end : PeHeader → ℕ
header_end h = end_after h.dos_header.pe_pointer h.optional_header

-- the zeros that are written after a header
abbrev pub filling_after : Option OptionalHeader → List ℕ
filling_after None = []
filling_after (Some h) = filling h

-- A header that was read in strict mode is written as the file's bytes up to its end, followed by
-- zeros for the missing data directories.
unfoldable pub HeaderWritesBack : Type 0
HeaderWritesBack =
    (file : List ℕ) (h : PeHeader) → IsBytes file → (pe_header true).value file ≡ Some h
    → (header_end h ≤ length file)
    × (header_bytes Little h
    ≡ Some (take (header_end h) file ++ filling_after h.optional_header))

-- A header that was read in strict mode reads back from any bytes that it was written over.
unfoldable pub HeaderReadsBack : Type 0
HeaderReadsBack =
    (file old new : List ℕ) (h : PeHeader) → IsBytes file → (pe_header true).value file ≡ Some h
    → option_and_then (overwritten old 0) (header_bytes Little h) ≡ Some new
    → (pe_header true).value new ≡ Some h

-- ---- which headers read back, whatever their numbers are

-- Entry i of the data directories is what a reader makes of its directory: the directory with the
-- offset of its end, or none if it is zeros or i is past the count. The numbers of the directory
-- fit their fields.
abbrev pub IsEntryAt : ℕ → ℕ → ℕ → Option (ℕ × DataDirectory) → Type 0
IsEntryAt start count i entry =
    let d = directory_or_zeros entry in
    ((if nat_lt i count then entry_ending (start + 8 * i + 8) d else None) ≡ entry)
    × FieldsFit (directory_fields d)

-- The parts of an optional header agree. It has as many data directories as it counts, at most
-- sixteen, after its fields in the width that the magic gives. The standard fields fit that width.
abbrev pub IsConsistentOptional : OptionalHeader → Type 0
IsConsistentOptional h =
    let s = h.standard_fields in
    let count = h.windows_fields.number_of_rva_and_sizes in
    let entries = h.data_directories.data_directories in
    (count ≤ 16) × (length entries ≡ 16)
    × ((i : ℕ) → i < 16 → IsEntryAt (fields_size s.magic) count i (slice_index_or entries i None))
    × (s.size_of_code < 2 ^ 32) × (s.size_of_initialized_data < 2 ^ 32)
    × (s.size_of_uninitialized_data < 2 ^ 32) × (s.base_of_code < 2 ^ 32)
    × (s.magic ≡ 0x20B → s.base_of_data ≡ 0)

-- there is an optional header exactly if its size is not 0, and its parts agree
abbrev pub IsConsistentPart : ℕ → Option OptionalHeader → Type 0
IsConsistentPart size None = size ≡ 0
IsConsistentPart size (Some h) = ((size == 0) ≡ false) × IsConsistentOptional h

-- The parts of a header agree: both signatures are right, the DOS header points to the end of the
-- stub, the Rich header is that of the stub, and the optional header agrees with its size. This
-- says nothing about the other numbers.
abbrev pub IsConsistent : PeHeader → Type 0
IsConsistent h =
    (h.dos_header.signature ≡ 0x5A4D)
    × (h.dos_header.pe_pointer ≡ 64 + length h.dos_stub)
    × ((if nat_lt h.dos_header.pe_pointer 68 then Some None else rich_in.value h.dos_stub)
    ≡ Some h.rich_header)
    × (h.signature ≡ 0x4550)
    × IsConsistentPart h.coff_header.size_of_optional_header h.optional_header

-- The fields of an optional header read back from what is written of them, in either width.
abbrev pub FieldsReadBack : OptionalHeader → Type 0
FieldsReadBack h =
    (h.standard_fields.magic ≡ 0x10B
    → ReadsBack 28 standard_32_record standard_32_fields (standard_to_32 h.standard_fields)
    × IfSome (windows_to_32 h.windows_fields) (ReadsBack 68 windows_32_record windows_32_fields))
    × (h.standard_fields.magic ≡ 0x20B
    → ReadsBack 24 standard_64_record standard_64_fields (standard_to_64 h.standard_fields)
    × ReadsBack 88 (windows_record 8) (windows_record_fields 8) h.windows_fields)

-- ---- the places of the markers of a Rich header

-- the marker `Rich` is here, with a key of four bytes after it
abbrev pub IsMarkerAt : List ℕ → ℕ → Type 0
IsMarkerAt stretch i = (i + 8 ≤ length stretch) × (word_at stretch i ≡ 0x68636952)

-- a word that is `DanS` under the key is here
abbrev pub IsDansAt : ℕ → List ℕ → ℕ → Type 0
IsDansAt key stretch j = (j + 4 ≤ length stretch) × (bit_xor (word_at stretch j) key ≡ 0x536E6144)

-- it holds here, and nowhere before
pub record IsLeast (P : ℕ → Type 0) (i : ℕ) : Type 0 where
  pub holds : P i
  pub least : (k : ℕ) → k < i → ¬ P k

-- The markers of a Rich header before a PE signature at p: each is at the least possible offset in
-- the stretch from 64 to p, and the key of the header follows the marker `Rich`.
pub record IsMarked (bytes : List ℕ) (p : ℕ) (r : Rich) : Type 0 where
  pub end : ℕ
  pub start : ℕ
  pub end_offset : r.end_offset ≡ 64 + end
  pub start_offset : r.start_offset ≡ 64 + start
  pub marker : IsLeast (IsMarkerAt (slice_range bytes 64 p)) end
  pub key : r.key ≡ word_at (slice_range bytes 64 p) (end + 4)
  pub dans : IsLeast (IsDansAt r.key (slice_range bytes 64 p)) start

-- If the Rich header of a file is read, the file has a DOS header, and the Rich header has these
-- markers.
unfoldable pub RichIsMarked : Type 0
RichIsMarked =
    (bytes : List ℕ) (r : Rich) → rich_header.value bytes ≡ Some (Some r)
    → IsSomeAnd (dos_header.value bytes) (λ dos. IsMarked bytes dos.pe_pointer r)

-- If a read finds no Rich header, the file has a DOS header, but no marker `Rich` with a key after
-- it.
unfoldable pub RichIsUnmarked : Type 0
RichIsUnmarked =
    (bytes : List ℕ) → rich_header.value bytes ≡ Some None
    → IsSomeAnd (dos_header.value bytes)
    (λ dos. (i : ℕ) → ¬ IsMarkerAt (slice_range bytes 64 dos.pe_pointer) i)
