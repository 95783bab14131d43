-- The auxiliary records of a symbol table, each by its fields.
use Rattle.std.specs.Prelude.{ℕ, List, [], ◌∷◌, slice_range}
use Rattle.goblin_base.specs.{declared.endian.Endian.Endian, Bytes.number, Record.FieldValue}
use Rattle.goblin_base.specs.Record.FieldValue.{octets, uint}
use Rattle.goblin_pe_symbol.specs.declared.symbol.auxiliary as auxiliary
pub use auxiliary.AuxBeginAndEndFunction.{AuxBeginAndEndFunction}
pub use auxiliary.AuxFunctionDefinition.{AuxFunctionDefinition}
pub use auxiliary.AuxSectionDefinition.{AuxSectionDefinition}
pub use auxiliary.AuxWeakExternal.{AuxWeakExternal}

-- Source: PE Format, "Auxiliary Symbol Records".

-- the auxiliary record of a symbol that defines a function, in its 18 bytes
abbrev pub function_definition_record : Endian → List ℕ → AuxFunctionDefinition
function_definition_record endian bytes = record {
  tag_index = number endian 4 bytes 0;
  total_size = number endian 4 bytes 4;
  pointer_to_line_number = number endian 4 bytes 8;
  pointer_to_next_function = number endian 4 bytes 12;
  unused = slice_range bytes 16 18;
}

-- its fields, in order
abbrev pub function_definition_fields : AuxFunctionDefinition → List FieldValue
function_definition_fields r =
    uint 4 r.tag_index ∷ uint 4 r.total_size ∷ uint 4 r.pointer_to_line_number
    ∷ uint 4 r.pointer_to_next_function ∷ octets r.unused ∷ []

-- the auxiliary record of a symbol for the start or the end of a function, in its 18 bytes
abbrev pub begin_and_end_function_record : Endian → List ℕ → AuxBeginAndEndFunction
begin_and_end_function_record endian bytes = record {
  unused1 = slice_range bytes 0 4;
  line_number = number endian 2 bytes 4;
  unused2 = slice_range bytes 6 12;
  pointer_to_next_function = number endian 4 bytes 12;
  unused3 = slice_range bytes 16 18;
}

-- its fields, in order
abbrev pub begin_and_end_function_fields : AuxBeginAndEndFunction → List FieldValue
begin_and_end_function_fields r =
    octets r.unused1 ∷ uint 2 r.line_number ∷ octets r.unused2 ∷ uint 4 r.pointer_to_next_function
    ∷ octets r.unused3 ∷ []

-- the auxiliary record of a symbol that another may replace, in its 18 bytes
abbrev pub weak_external_record : Endian → List ℕ → AuxWeakExternal
weak_external_record endian bytes = record {
  tag_index = number endian 4 bytes 0;
  characteristics = number endian 4 bytes 4;
  unused = slice_range bytes 8 18;
}

-- its fields, in order
abbrev pub weak_external_fields : AuxWeakExternal → List FieldValue
weak_external_fields r = uint 4 r.tag_index ∷ uint 4 r.characteristics ∷ octets r.unused ∷ []

-- the auxiliary record of a symbol that defines a section, in its 18 bytes
abbrev pub section_definition_record : Endian → List ℕ → AuxSectionDefinition
section_definition_record endian bytes = record {
  length = number endian 4 bytes 0;
  number_of_relocations = number endian 2 bytes 4;
  number_of_line_numbers = number endian 2 bytes 6;
  checksum = number endian 4 bytes 8;
  number = number endian 2 bytes 12;
  selection = number endian 1 bytes 14;
  unused = slice_range bytes 15 18;
}

-- its fields, in order
abbrev pub section_definition_fields : AuxSectionDefinition → List FieldValue
section_definition_fields r =
    uint 4 r.length ∷ uint 2 r.number_of_relocations ∷ uint 2 r.number_of_line_numbers
    ∷ uint 4 r.checksum ∷ uint 2 r.number ∷ uint 1 r.selection ∷ octets r.unused ∷ []
