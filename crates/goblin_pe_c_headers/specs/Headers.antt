-- The record of an optional header, as a definition.
use Rattle.std.specs.Prelude.{Option, Some, None}
use Rattle.goblin_pe_head.specs.declared.optional_header.OptionalHeader.{OptionalHeader}
use Rattle.goblin_pe_head.specs.declared.optional_header.standard_fields as standard
use standard.StandardFields.{StandardFields}
use Rattle.goblin_pe_head.specs.added.HeaderParts.{zero_windows_fields}
use Rattle.goblin_pe_c_headers.specs.declared.headers.PeOptionalHeader.{PeOptionalHeader}

abbrev pub zero_standard_fields : StandardFields
zero_standard_fields = record {
  magic = 0;
  major_linker_version = 0;
  minor_linker_version = 0;
  size_of_code = 0;
  size_of_initialized_data = 0;
  size_of_uninitialized_data = 0;
  address_of_entry_point = 0;
  base_of_code = 0;
  base_of_data = 0;
}

-- the fields of an optional header, zeros where there is none
abbrev pub optional_record : Option OptionalHeader → PeOptionalHeader
optional_record None =
    record { standard_fields = zero_standard_fields; windows_fields = zero_windows_fields }
optional_record (Some h) =
    record { standard_fields = h.standard_fields; windows_fields = h.windows_fields }
