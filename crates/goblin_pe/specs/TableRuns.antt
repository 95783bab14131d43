-- The six readers that map addresses by a table of sections: what they return, and how the answers
-- of two runs compare.
use Rattle.std.specs.Prelude.{ℕ, Bool, true, false, List, map, Option, option_map}
use Rattle.goblin_base.specs.{declared.endian.Endian.Endian, declared.error.ErrorOf.ErrorOf}
use Rattle.goblin_base.specs.{Footprints.Alike, Footprints.AlikeOrMemory, Tables.Format}
use Rattle.goblin_base.specs.Reading.{InModes, Reads, ReadsOrMemory}
use Rattle.goblin_pe_sect.specs.AddressReadings.{data_at, name_or_none, relocation_data}
use Rattle.goblin_pe_sect.specs.{BaseRelocations.relocation_bytes, Addresses.Addressing}
use Rattle.goblin_pe.specs.declared.laws.order.Request.{Request}
use Rattle.goblin_pe.specs.declared.laws.order.TablesOf.{TablesOf}
use Rattle.goblin_pe_export.specs.{ExportReadings.export_read, Exports.export_read_model}
use Rattle.goblin_pe_import.specs.ImportLookup.{EntryValue, entry_model}
use Rattle.goblin_pe_import.specs.{ImportReadings.import_data, LookupReadings.lookup_table}
use Rattle.goblin_pe.specs.Modes.{ReadsInModes, unless_front}

-- Each answer is its reader's own, over a map of addresses to file offsets.
pub record AreTables {D Y : Type 0} (format : Format EntryValue) (model : D → Y)
    (value_of : Endian → List ℕ → Option (Y × ℕ))
    (refusal : Endian → List ℕ → ErrorOf → Type 0)
    (strict : Bool) (addressing : Addressing)
    (bytes : List ℕ) (request : Request) (tables : TablesOf D) : Type 0 where
  pub lookup : ReadsOrMemory (map entry_model) tables.lookup
      (lookup_table strict format addressing request.lookup) bytes
  pub imports : ReadsOrMemory (λ x. x) tables.imports
      (import_data strict format addressing request.imports.virtual_address) bytes
  pub exports : ReadsOrMemory export_read_model tables.exports
      (export_read addressing request.exports) bytes
  pub relocations : Reads relocation_bytes tables.relocations
      (relocation_data addressing request.relocations) bytes
  pub name : Reads (option_map (λ s. s.now)) tables.name
      (name_or_none strict addressing request.name) bytes
  pub value : Reads model tables.value
      (data_at addressing.offset value_of refusal request.value.virtual_address) bytes

-- The answers of each reader are alike.
pub record AreAlike {D Y : Type 0} (model : D → Y) (first second : TablesOf D) : Type 0 where
  pub lookup : AlikeOrMemory (map entry_model) first.lookup second.lookup
  pub imports : AlikeOrMemory (λ x. x) first.imports second.imports
  pub exports : AlikeOrMemory export_read_model first.exports second.exports
  pub relocations : Alike relocation_bytes first.relocations second.relocations
  pub name : Alike (option_map (λ s. s.now)) first.name second.name
  pub value : Alike model first.value second.value

-- Each reader in strict and in permissive mode. If strict mode has a value, permissive mode has the
-- same, with one exception: an import directory at file offset 0 is an empty list there, as
-- `unless_front` says.
pub record AreInModes {D Y : Type 0} (format : Format EntryValue) (model : D → Y)
    (value_of : Endian → List ℕ → Option (Y × ℕ))
    (refusal : Endian → List ℕ → ErrorOf → Type 0)
    (addressing : Addressing) (request : Request) (bytes : List ℕ)
    (both : TablesOf D × TablesOf D) : Type 0 where
  pub lookup : InModes (map entry_model) (λ x. x)
      (lookup_table true format addressing request.lookup)
      (lookup_table false format addressing request.lookup) bytes
      (both.0.lookup, both.1.lookup)
  pub imports : (let rva = request.imports.virtual_address in
      InModes (λ x. x) (unless_front (addressing.offset rva))
      (import_data true format addressing rva)
      (import_data false format addressing rva) bytes
      (both.0.imports, both.1.imports))
  pub exports : InModes export_read_model (λ x. x) (export_read addressing request.exports)
      (export_read addressing request.exports) bytes (both.0.exports, both.1.exports)
  pub relocations : ReadsInModes relocation_bytes (λ x. x)
      (relocation_data addressing request.relocations)
      (relocation_data addressing request.relocations) bytes
      (both.0.relocations, both.1.relocations)
  pub name : ReadsInModes (option_map (λ s. s.now)) (λ x. x)
      (name_or_none true addressing request.name) (name_or_none false addressing request.name) bytes
      (both.0.name, both.1.name)
  pub value : (let rva = request.value.virtual_address in
      ReadsInModes model (λ x. x) (data_at addressing.offset value_of refusal rva)
      (data_at addressing.offset value_of refusal rva) bytes (both.0.value, both.1.value))
