-- The readers that map addresses answer alike under maps that are the same, and permissive mode
-- repeats strict mode.
use Rattle.std.proofs.Common.{◌≡◌, ℕ, Bool, true, false, List, map, None, Option, Some, ap, subst}
use Rattle.std.specs.Prelude.{option_map}
use Rattle.goblin_base.specs.{declared.endian.Endian.Endian, declared.error.ErrorOf.ErrorOf}
use Rattle.goblin_base.specs.{declared.permissive.ParseMode.ParseMode, Tables.Format}
use Rattle.goblin_base.specs.Reading.{Reading, Repeats}
use Rattle.goblin_base.proofs.Footprints.{alike_answers, alike_or_memory_answers}
use Rattle.readings.specs.Reads.{mapped}
use Rattle.readings.proofs.Modes.{repeats-or_else, repeats-same}
use Rattle.goblin_pe_sect.specs.AddressReadings.{data_at, name_at, name_or_none, relocation_data}
use Rattle.goblin_pe_sect.specs.BaseRelocations.{relocation_bytes}
use Rattle.goblin_pe_sect.specs.{declared.options.ParseOptions.ParseOptions, Mapping.file_offset}
use Rattle.goblin_pe_sect.specs.{Options.mapping_by, Options.is_strict, SectionTable.Section}
use Rattle.goblin_pe_sect.specs.Addresses.{Addressing, with_whole_names}
use Rattle.goblin_pe.specs.declared.laws.order.Request.{Request}
use Rattle.goblin_pe.specs.declared.laws.order.TablesOf.{TablesOf}
use Rattle.goblin_pe_export.specs.{ExportReadings.export_read, Exports.export_read_model}
use Rattle.goblin_pe_import.specs.ImportLookup.{EntryValue, entry_model}
use Rattle.goblin_pe_import.specs.{ImportReadings.import_data, LookupReadings.lookup_table}
use Rattle.goblin_pe_import.proofs.PermissiveReads.{lookup_table-repeats}
use Rattle.goblin_pe.specs.Modes.{in_mode, unless_front}
use Rattle.goblin_pe.specs.TableRuns.{AreAlike, AreInModes, AreTables}
use Rattle.goblin_pe.proofs.PermissiveReads.{in_modes, reads_in_modes, repeats-import_data}

-- what permissive mode takes for a name that is missing, strict mode refuses
repeats-name_or_none : (addressing : Addressing) (rva : ℕ)
    → Repeats (name_or_none true addressing rva) (name_or_none false addressing rva)
repeats-name_or_none addressing rva =
    let name : Reading (Option (List ℕ)) = mapped (λ name. Some name) (name_at addressing rva) in
    repeats-or_else None name name (repeats-same name)

module _ {D Y : Type 0} (format : Format EntryValue) (model : D → Y)
    (value_of : Endian → List ℕ → Option (Y × ℕ))
    (refusal : Endian → List ℕ → ErrorOf → Type 0)
    (bytes : List ℕ) (request : Request) where
  -- the answers by options in a mode, where addresses are mapped by the other options
  pub answered_in_mode : (mode : ParseMode) (opts own : ParseOptions) (sections : List Section)
      (alignment : ℕ) (tables : TablesOf D) → own ≡ in_mode mode opts
      → AreTables format model value_of refusal (is_strict own.parse_mode)
      (with_whole_names (file_offset (mapping_by own) sections alignment)) bytes request tables
      → AreTables format model value_of refusal (is_strict mode)
      (with_whole_names (file_offset (mapping_by opts) sections alignment)) bytes request tables
  answered_in_mode mode opts own sections alignment tables is read =
      subst
      (λ (o : ParseOptions).
      AreTables format model value_of refusal (is_strict o.parse_mode)
      (with_whole_names (file_offset (mapping_by o) sections alignment)) bytes request tables)
      is read

  module _ (first second : TablesOf D) where
    -- the answers under maps that are the same
    pub are_alike : (strict : Bool) (addressing other : Addressing) → addressing ≡ other
        → AreTables format model value_of refusal strict addressing bytes request first
        → AreTables format model value_of refusal strict other bytes request second
        → AreAlike model first second
    are_alike strict addressing other same one two =
        let Map = Addressing in
        record {
          lookup =
              alike_or_memory_answers (map entry_model) _ _ _ _ _ _ one.lookup two.lookup
              (ap (λ (m : Map). (lookup_table strict format m request.lookup).value bytes) same);
          imports =
              alike_or_memory_answers (λ x. x) _ _ _ _ _ _ one.imports two.imports
              (ap
              (λ (m : Map).
              (import_data strict format m request.imports.virtual_address).value bytes) same);
          exports =
              alike_or_memory_answers export_read_model _ _ _ _ _ _ one.exports two.exports
              (ap (λ (m : Map). (export_read m request.exports).value bytes) same);
          relocations =
              alike_answers relocation_bytes _ _ _ _ _ _ one.relocations two.relocations
              (ap (λ (m : Map). (relocation_data m request.relocations).value bytes) same);
          name =
              alike_answers (option_map (λ s. s.now)) _ _ _ _ _ _ one.name two.name
              (ap (λ (m : Map). (name_or_none strict m request.name).value bytes) same);
          value =
              alike_answers model _ _ _ _ _ _ one.value two.value
              (ap
              (λ (m : Map).
              (data_at m.offset value_of refusal request.value.virtual_address).value bytes)
              same);
        }

    -- the answers in both modes
    pub are_in_modes : (addressing : Addressing)
        → AreTables format model value_of refusal true addressing bytes request first
        → AreTables format model value_of refusal false addressing bytes request second
        → AreInModes format model value_of refusal addressing request bytes
        (first, second)
    are_in_modes addressing one two = record {
      lookup =
          in_modes (map entry_model) (λ x. x) _ _ _ _ _
          (lookup_table-repeats addressing format request.lookup) one.lookup two.lookup;
      imports =
          in_modes (λ x. x) (unless_front (addressing.offset request.imports.virtual_address)) _ _ _ _ _
          (repeats-import_data format addressing request.imports.virtual_address) one.imports
          two.imports;
      exports =
          in_modes export_read_model (λ x. x) _ _ _ _ _
          (repeats-same (export_read addressing request.exports)) one.exports two.exports;
      relocations =
          reads_in_modes relocation_bytes (λ x. x) _ _ _ _ _
          (repeats-same (relocation_data addressing request.relocations)) one.relocations
          two.relocations;
      name =
          reads_in_modes (option_map (λ s. s.now)) (λ x. x) _ _ _ _ _
          (repeats-name_or_none addressing request.name) one.name two.name;
      value =
          reads_in_modes model (λ x. x) _ _ _ _ _
          (repeats-same
          (data_at addressing.offset value_of refusal request.value.virtual_address))
          one.value two.value;
    }
