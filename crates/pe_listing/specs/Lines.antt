-- The lines of a listing.
use Rattle.std.specs.Prelude.{ℕ, ◌/◌, List, [], ◌∷◌, ◌++◌, codes, length, unwrap_or, Option, Some}
use Rattle.std.specs.Prelude.{None, Result, Ok, Err, suc}
use Rattle.std.specs.List.{concat, flat_map}
use Rattle.goblin_pe.specs.declared.error.ErrorOf.{ErrorOf}
use Rattle.goblin_pe.specs.base.Bytes.{before_nul}
use Rattle.goblin_pe.specs.sect.BaseRelocations.{Block, block_items}
use Rattle.goblin_pe.specs.sect.SectionTable.{Section}
use Rattle.goblin_pe.specs.declared.optional_header.OptionalHeader.{OptionalHeader}
use Rattle.goblin_pe.specs.head.PeHeader.{PeHeader}
use Rattle.goblin_pe.specs.declared.whole.Part.{Part}
use Rattle.goblin_pe.specs.declared.whole.Part.TheVariants.{Absent, Read, Refused}
use Rattle.goblin_pe.specs.export.Exports.{ExportRow}
use Rattle.goblin_pe.specs.export.Forwarders.{Forwarder}
use Rattle.goblin_pe.specs.export.Forwarders.Forwarder.{ByName, ByOrdinal}
use Rattle.goblin_pe.specs.import.Imports.{ImportValue}
use Rattle.goblin_pe.specs.Whole.{WholeFile}
use Rattle.pe_listing.specs.Text.{decimal_field, hex_field, name_field}

-- what is printed of a value, or nothing if there is none
abbrev pub if_there : {A : Type 0} → (A → List ℕ) → Option A → List ℕ
if_there field None = []
if_there field (Some x) = field x

-- the part of the header's line for the optional header
abbrev pub optional_fields : OptionalHeader → List ℕ
optional_fields h =
    hex_field (codes " magic=") h.standard_fields.magic
    ++ hex_field (codes " entry=") h.standard_fields.address_of_entry_point

-- the line of the header; without an optional header it ends after the number of sections
unfoldable pub header_line : PeHeader → List ℕ
header_line h = concat (
    hex_field (codes "header machine=") h.coff_header.machine
    ∷ decimal_field (codes " sections=") h.coff_header.number_of_sections
    ∷ if_there optional_fields h.optional_header
    ∷ codes "\n"
    ∷ [])

-- the name that is printed: the one from the string table, else the eight bytes up to the first NUL
unfoldable pub shown_name : Section → List ℕ
shown_name s = unwrap_or s.real_name (before_nul s.name)

-- the line of a section
unfoldable pub section_line : Section → List ℕ
section_line s = concat (
    hex_field (codes "section va=") s.virtual_address
    ∷ hex_field (codes " vsize=") s.virtual_size
    ∷ hex_field (codes " raw=") s.size_of_raw_data
    ∷ hex_field (codes " ptr=") s.pointer_to_raw_data
    ∷ name_field (codes " name=") (shown_name s)
    ∷ codes "\n"
    ∷ [])

-- the line of an import
unfoldable pub import_line : ImportValue → List ℕ
import_line i = concat (
    hex_field (codes "import offset=") i.offset
    ∷ decimal_field (codes " ordinal=") i.ordinal
    ∷ hex_field (codes " rva=") i.rva
    ∷ decimal_field (codes " size=") i.size
    ∷ decimal_field (codes " slot=") i.slot
    ∷ name_field (codes " dll=") i.dll
    ∷ name_field (codes " name=") i.name
    ∷ codes "\n"
    ∷ [])

-- the field of a forwarder: the library, and after a dot the name, or `#` and the ordinal
unfoldable pub forward_field : Forwarder → List ℕ
forward_field (ByName export lib) =
    name_field (codes " forward=") lib ++ name_field (codes ".") export
forward_field (ByOrdinal ordinal lib) =
    name_field (codes " forward=") lib ++ decimal_field (codes ".#") ordinal

-- the line of an export, without the fields that it lacks
unfoldable pub export_line : ExportRow → List ℕ
export_line e = concat (
    hex_field (codes "export rva=") e.rva
    ∷ if_there (hex_field (codes " offset=")) e.offset
    ∷ if_there forward_field e.reexport
    ∷ if_there (name_field (codes " name=")) e.name
    ∷ codes "\n"
    ∷ [])

-- the line of a block of base relocations, with the number of its words, or of a block that is
-- refused
unfoldable pub block_line : Result Block ErrorOf → List ℕ
block_line (Ok b) = concat (
    hex_field (codes "block rva=") b.rva
    ∷ hex_field (codes " size=") b.size
    ∷ decimal_field (codes " words=") (length b.words / 2)
    ∷ codes "\n"
    ∷ [])
block_line (Err e) = codes "block refused\n"

-- the number of blocks without an error
unfoldable pub block_count : List (Result Block ErrorOf) → ℕ
block_count [] = 0
block_count (Ok b ∷ items) = suc (block_count items)
block_count (Err e ∷ items) = block_count items

-- the lines of a table: that it is absent or refused, or how many entries it has, followed by their
-- lines
unfoldable pub part_lines : {A : Type 0} → List ℕ → (A → ℕ) → (A → List ℕ) → Part A → List ℕ
part_lines label count lines Absent = label ++ codes " absent\n"
part_lines label count lines (Read table) =
    concat (label ∷ decimal_field (codes " ") (count table) ∷ codes "\n" ∷ lines table ∷ [])
part_lines label count lines Refused = label ++ codes " refused\n"

-- the lines of the base relocations
abbrev pub relocation_lines : Part (List ℕ) → List ℕ
relocation_lines relocations =
    part_lines (codes "relocations") (λ bytes. block_count (block_items bytes 0))
    (λ bytes. flat_map block_line (block_items bytes 0)) relocations

-- the lines of a whole file
unfoldable pub whole_lines : WholeFile → List ℕ
whole_lines w = concat (
    header_line w.header
    ∷ flat_map section_line w.sections
    ∷ part_lines (codes "imports") length (flat_map import_line) w.imports
    ∷ part_lines (codes "exports") length (flat_map export_line) w.exports
    ∷ relocation_lines w.relocations
    ∷ [])
