-- The COFF header: its record, and the places of the tables that it leads to.
use Rattle.std.specs.Prelude.{◌+◌, ◌*◌, ◌/◌, ℕ, ◌==◌, if◌then◌else◌, List, [], ◌∷◌, codes, length}
use Rattle.std.specs.Prelude.{Option, Some, None}
use Rattle.goblin_base.specs.{declared.endian.Endian.Endian, declared.error.ErrorOf.ErrorOf}
use Rattle.goblin_base.specs.{Bytes.number, Record.FieldValue, Record.uint, Answers.IsTooShort}
pub use Rattle.goblin_pe_head.specs.declared.header.coff.CoffHeader.{CoffHeader}

-- Source: PE Format, "COFF File Header (Object and Image)", "COFF Symbol Table" and "COFF String
-- Table".

-- the COFF header in a record's 20 bytes
abbrev pub coff_header : Endian → List ℕ → CoffHeader
coff_header endian bytes = record {
  machine = number endian 2 bytes 0;
  number_of_sections = number endian 2 bytes 2;
  time_date_stamp = number endian 4 bytes 4;
  pointer_to_symbol_table = number endian 4 bytes 8;
  number_of_symbol_table = number endian 4 bytes 12;
  size_of_optional_header = number endian 2 bytes 16;
  characteristics = number endian 2 bytes 18;
}

-- the fields of a COFF header, in order
abbrev pub coff_fields : CoffHeader → List FieldValue
coff_fields h =
    uint 2 h.machine ∷ uint 2 h.number_of_sections ∷ uint 4 h.time_date_stamp
    ∷ uint 4 h.pointer_to_symbol_table
    ∷ uint 4 h.number_of_symbol_table ∷ uint 2 h.size_of_optional_header ∷ uint 2 h.characteristics
    ∷ []

-- ---- the tables that it leads to

-- the end of the symbol table, at which the string table begins, if there are such tables; a record
-- of the symbol table has 18 bytes
abbrev pub symbols_end : CoffHeader → ℕ
symbols_end header = header.pointer_to_symbol_table + 18 * header.number_of_symbol_table

-- the file is too short for n sections at any offset
abbrev pub IsTooManySections : ℕ → List ℕ → ErrorOf → Type 0
IsTooManySections n bytes = IsTooShort n (codes "sections") (length bytes / 40)

-- the file offset of the string table: that after the symbol table, or none if the pointer to the
-- symbol table is 0
unfoldable pub string_table_offset : CoffHeader → Option ℕ
string_table_offset header =
    if header.pointer_to_symbol_table == 0 then None else Some (symbols_end header)
