-- What the audits say about a file.
use Rattle.std.specs.Prelude.{◌≡◌, ◌++◌, ◌==◌, ◌&&◌, ℕ, Bool, false, not, List, Option, Some, None}
use Rattle.std.specs.Prelude.{IsSome, bit_and, codes, count_by, filter}
use Rattle.std.specs.Option.{is_some}
use Rattle.std.specs.Str.{bytes_eq}
use Rattle.goblin_pe.specs.declared.error.ErrorOf.{ErrorOf}
use Rattle.goblin_pe.specs.declared.optional_header.OptionalHeader.{OptionalHeader}
use Rattle.goblin_pe.specs.declared.options.ParseOptions.{ParseOptions}
use Rattle.goblin_pe.specs.Whole.{file_table}
use Rattle.goblin_pe.specs.added.Layouts.{read_or}
use Rattle.goblin_pe.specs.base.ErrorText.{error_text}
use Rattle.goblin_pe.specs.export.ExportRecords.{ExportRow, ExportTables, NumberedExport}
use Rattle.goblin_pe.specs.import.Imports.{NumberedImport}
use Rattle.goblin_pe.specs.sect.Mapping.{section_at}
use Rattle.goblin_pe.specs.sect.Options.{default_options}
use Rattle.goblin_pe.specs.declared.options.View.TheVariants.{Sections}
use Rattle.goblin_pe.specs.head.PeHeader.{PeHeader}
use Rattle.goblin_pe.specs.base.Reading.{IsRefused, Reading}
use Rattle.goblin_pe.specs.readings.Reads.{mapped}
use Rattle.goblin_pe.specs.sect.SectionTable.{Section}
use Rattle.goblin_pe.specs.readings.added.Questions.{has_any}
use Rattle.goblin_pe.specs.Whole.{export_part, import_list, layout}

-- ---- imports

-- whether an import is from the library of this name, byte for byte
abbrev pub is_from : List ℕ → NumberedImport → Bool
is_from library walked = bytes_eq walked.import.dll library

-- whether a file, read in strict mode, imports something from this library
abbrev pub imports_from : List ℕ → Reading Bool
imports_from library =
    mapped (read_or false (has_any (is_from library))) (file_table import_list default_options)

-- ---- exports

abbrev pub is_forwarder : ExportRow → Bool
is_forwarder row = is_some row.reexport

-- how many of the exports that were read are forwarders
abbrev pub forwarder_count : ExportTables × List NumberedExport → ℕ
forwarder_count read = count_by (λ x. is_forwarder x.row) read.1

-- how many exports of a file are forwarders
abbrev pub forwarders : ParseOptions → Reading ℕ
forwarders opts = mapped (read_or 0 forwarder_count) (file_table export_part opts)

-- ---- sections

-- whether a section may be executed, or written: this bit is set
abbrev pub is_code : Section → Bool
is_code s = not (bit_and s.characteristics 0x2000_0000 == 0)

abbrev pub is_writable : Section → Bool
is_writable s = not (bit_and s.characteristics 0x8000_0000 == 0)

abbrev pub is_writable_code : Section → Bool
is_writable_code s = is_writable s && is_code s

-- the sections of a file that may be written and executed
abbrev pub writable_code : Reading (List Section)
writable_code = mapped (λ both. filter is_writable_code both.1) (layout default_options)

-- whether there is a section, and it may be executed
abbrev pub is_code_there : Option Section → Bool
is_code_there None = false
is_code_there (Some s) = is_code s

-- whether the entry point of an optional header lies in a section that may be executed
abbrev pub is_entered_in_code : Option OptionalHeader → List Section → Bool
is_entered_in_code None sections = false
is_entered_in_code (Some h) sections =
    let entry = h.standard_fields.address_of_entry_point in
    is_code_there (section_at Sections h.windows_fields.file_alignment entry sections)

-- the same for a file
abbrev pub enters_code : Reading Bool
enters_code =
    mapped (λ both. is_entered_in_code both.0.optional_header both.1)
    (layout default_options)

-- ---- headers

-- the header with this time stamp in its COFF header, and all else as it was
abbrev pub stamped : ℕ → PeHeader → PeHeader
stamped time h =
    record h { coff_header = record h.coff_header { time_date_stamp = time } }

-- ---- refusals

-- The text says a true cause why the reading refuses the file. There is no text if the reading has
-- a value.
abbrev pub Tells : {A : Type 0} → Reading A → List ℕ → Option (List ℕ) → Type 0
Tells reading bytes None = IsSome (reading.value bytes)
Tells reading bytes (Some text) =
    (e : ErrorOf) × IsRefused reading bytes e × (text ≡ codes "refused: " ++ error_text e)
