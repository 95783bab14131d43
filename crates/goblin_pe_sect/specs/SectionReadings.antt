-- A section: its section header, its name from the string table, and its data.
use Rattle.std.specs.Prelude.{◌≡◌, ℕ, ◌+◌, ◌-◌, Bool, List, ◌++◌, Option, Some, replicate}
use Rattle.goblin_base.specs.declared.endian.Endian.TheVariants.{Little}
use Rattle.goblin_base.specs.{declared.error.ErrorOf.ErrorOf, Answers.IsMemory}
use Rattle.goblin_base.specs.{Answers.IsSliceFault, Bytes.IsBytes, Reading.Reading, Record.encoding}
use Rattle.goblin_base.specs.Bytes as bytes_of
use Rattle.goblin_base.proofs.{Picks.by_cases-not_memory, Readings.slice-not_memory}
use Rattle.readings.specs.Reads.{◌>>=◌, because_by, bytes_between, mapped, needs_by, or_none}
use Rattle.readings.specs.Reads.{record_at, taken, text_at}
use Rattle.goblin_pe_sect.specs.SectionName.{IsNameFault, name_value}
use Rattle.goblin_pe_sect.specs.SectionTable.{Section, section_fields, section_record}

pub name-not_memory : (strict : Bool) (name : List ℕ) (e : ErrorOf)
    → IsNameFault strict name e → ¬ IsMemory e
name-not_memory strict name = by_cases-not_memory (IsNameFault strict name) (λ m h. h)

-- the offset into the string table that a section's name holds, if it holds one
abbrev pub name_number : Bool → List ℕ → Reading (Option ℕ)
name_number strict name =
    needs_by (name_value strict name) (IsNameFault strict name) (name-not_memory strict name)

-- the text at an offset into the string table at `table`; none if there is no offset
abbrev pub text_in_table : ℕ → Option ℕ → Reading (List ℕ)
text_in_table table offset = taken offset >>= λ n. text_at (table + n)

-- the name from the string table at `table`, if there is one
abbrev pub real_name : ℕ → Option ℕ → Reading (Option (List ℕ))
real_name table offset = or_none (text_in_table table offset)

-- The section whose header is at p. If its own name is indirect, it has the name from the string
-- table at `table`.
unfoldable pub named_section_at : Bool → ℕ → ℕ → Reading Section
named_section_at strict table p =
    record_at 40 (section_record Little) p
    >>= λ section. name_number strict section.name
    >>= λ offset. mapped (λ name. record section { real_name = name }) (real_name table offset)

-- the n bytes of raw data at p; there may be none, even at the end of the file
abbrev pub raw_bytes : ℕ → ℕ → Reading (List ℕ)
raw_bytes p n =
    because_by (λ bytes. IsSliceFault bytes p n) (λ bytes. slice-not_memory bytes p n)
    (bytes_between p (p + n))

-- the section's raw data in the file, which may be empty, even at the end of the file
abbrev pub raw_data : Section → Reading (List ℕ)
raw_data s = raw_bytes s.pointer_to_raw_data s.size_of_raw_data

-- the section's data: its raw data, followed by zeros up to the virtual size
abbrev pub section_data : Section → Reading (List ℕ)
section_data s =
    mapped (λ raw. raw ++ replicate (s.virtual_size - s.size_of_raw_data) 0) (raw_data s)

-- The encoding of a section that was read is the bytes of its section header.
abbrev pub SectionWritesBack : Type 0
SectionWritesBack =
    (strict : Bool) (table : ℕ) (bytes : List ℕ) (p : ℕ) (section : Section) → IsBytes bytes
    → (named_section_at strict table p).value bytes ≡ Some section
    → bytes_of.slice_at bytes p 40 ≡ Some (encoding Little (section_fields section))
