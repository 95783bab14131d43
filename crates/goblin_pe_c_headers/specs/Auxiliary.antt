-- The auxiliary records of a symbol, as a call gives them.
use Rattle.std.specs.Prelude.{◌≡◌, ℕ, ◌*◌, ◌/◌, ◌==◌, ◌&&◌, ◌||◌, nat_lt, pos, int_lt, nat_abs}
use Rattle.std.specs.Prelude.{if◌then◌else◌, Bool, false, List, [], ◌∷◌, length, Option, take}
use Rattle.goblin_base.specs.declared.endian.Endian.TheVariants.{Little}
use Rattle.goblin_base.specs.Bytes.{before_nul, number}
use Rattle.goblin_pe_symbol.specs.declared.symbol.Symbol.{Symbol}
use Rattle.goblin_pe_symbol.specs.AuxiliarySymbols.{begin_and_end_function_record}
use Rattle.goblin_pe_symbol.specs.AuxiliarySymbols.{function_definition_record}
use Rattle.goblin_pe_symbol.specs.AuxiliarySymbols.{section_definition_record, weak_external_record}
use Rattle.goblin_pe_c_headers.specs.declared.auxiliary.AuxiliaryKind.{AuxiliaryKind}
use Rattle.goblin_pe_c_headers.specs.declared.auxiliary.AuxiliaryKind.TheVariants as kind
use Rattle.goblin_pe_c_headers.specs.{declared.auxiliary.PeAuxiliary.PeAuxiliary, Names.cut_name}

-- Source: PE Format, "Auxiliary Symbol Records".

-- the kind of the auxiliary records of a symbol, by its class: external, static, of a function, of
-- a file, or a weak external
abbrev pub kind_by_class : Symbol → AuxiliaryKind
kind_by_class s =
    if (s.storage_class == 2) && ((s.typ / 16 == 2) && int_lt (pos 0) s.section_number)
    then kind.FunctionDefinition
    else if (s.storage_class == 2) && ((nat_abs s.section_number == 0) && (s.value == 0))
    then kind.WeakExternal
    else if s.storage_class == 105 then kind.WeakExternal
    else if s.storage_class == 101 then kind.BeginAndEndFunction
    else if s.storage_class == 103 then kind.File
    else if s.storage_class == 3 then kind.SectionDefinition
    else kind.None

-- the kind by the records: none if there are none, or they are cut
abbrev pub auxiliary_kind : Symbol → List ℕ → AuxiliaryKind
auxiliary_kind s records =
    if (s.number_of_aux_symbols == 0) || nat_lt (length records) (18 * s.number_of_aux_symbols)
    then kind.None
    else kind_by_class s

abbrev pub auxiliary_number : AuxiliaryKind → ℕ
auxiliary_number kind.None = 0
auxiliary_number kind.FunctionDefinition = 1
auxiliary_number kind.BeginAndEndFunction = 2
auxiliary_number kind.WeakExternal = 3
auxiliary_number kind.File = 4
auxiliary_number kind.SectionDefinition = 5

-- no auxiliary record; the name of a file is that of the record which is given
abbrev pub zero_auxiliary : PeAuxiliary → PeAuxiliary
zero_auxiliary a = record a {
  tag_index = 0;
  total_size = 0;
  pointer_to_line_number = 0;
  pointer_to_next_function = 0;
  line_number = 0;
  number = 0;
  length = 0;
  checksum = 0;
  number_of_relocations = 0;
  number_of_line_numbers = 0;
  selection = 0;
  is_file_cut = false;
  reserved = 0 ∷ 0 ∷ [];
  characteristics = 0;
  string_offset = 0;
  reserved2 = 0;
}

-- the number in the place of a file's name, if that begins with four zeros
abbrev pub offset_in_strings : List ℕ → ℕ
offset_in_strings records = if number Little 4 records 0 == 0 then number Little 4 records 4 else 0

-- the name of a file, and whether it is cut
abbrev pub file_name : Option ℕ → AuxiliaryKind → List ℕ → List ℕ × Bool
file_name longest kind.File records = cut_name longest (before_nul records)
file_name longest other records = ([], false)

-- the first of these records, of this kind
abbrev pub auxiliary_fields : AuxiliaryKind → List ℕ → PeAuxiliary → PeAuxiliary
auxiliary_fields kind.None records zeros = zeros
auxiliary_fields kind.FunctionDefinition records zeros =
    let read = function_definition_record Little (take 18 records) in
    record zeros {
      tag_index = read.tag_index;
      total_size = read.total_size;
      pointer_to_line_number = read.pointer_to_line_number;
      pointer_to_next_function = read.pointer_to_next_function;
    }
auxiliary_fields kind.BeginAndEndFunction records zeros =
    let read = begin_and_end_function_record Little (take 18 records) in
    record zeros {
      pointer_to_next_function = read.pointer_to_next_function;
      line_number = read.line_number;
    }
auxiliary_fields kind.WeakExternal records zeros =
    let read = weak_external_record Little (take 18 records) in
    record zeros { tag_index = read.tag_index; characteristics = read.characteristics }
auxiliary_fields kind.File records zeros =
    record zeros { string_offset = offset_in_strings records }
auxiliary_fields kind.SectionDefinition records zeros =
    let read = section_definition_record Little (take 18 records) in
    record zeros {
      number = read.number;
      length = read.length;
      checksum = read.checksum;
      number_of_relocations = read.number_of_relocations;
      number_of_line_numbers = read.number_of_line_numbers;
      selection = read.selection;
    }

-- the record says the first of these records, of this kind; the name of a file is cut at a limit
abbrev pub AuxiliaryModel : Option ℕ → AuxiliaryKind → List ℕ → PeAuxiliary → Type 0
AuxiliaryModel longest kind records a =
    let file = file_name longest kind records in
    (a.file.now ≡ file.0)
    × (a ≡ record (auxiliary_fields kind records (zero_auxiliary a)) { is_file_cut = file.1 })
