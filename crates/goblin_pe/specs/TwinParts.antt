-- The readers of headers, of the tables of a COFF file, and of the value at a directory's address:
-- what they return for a file, and for another that agrees with it.
use Rattle.std.specs.Prelude.{ℕ, Bool, List, Option, Vec, option_map}
use Rattle.std.specs.Global.{Global}
use Rattle.goblin_base.specs.{declared.endian.Endian.Endian, declared.error.ErrorOf.ErrorOf}
use Rattle.goblin_base.specs.Reading.{Reading, Reads, ReadsOrMemory, Twins, TwinsOrMemory}
use Rattle.goblin_pe_sect.specs.declared.data_directories.DataDirectory.{DataDirectory}
use Rattle.goblin_pe_sect.specs.{BaseRelocations.relocation_bytes, SectionTable.Section}
use Rattle.goblin_pe_sect.specs.Addresses.{Addressing}
use Rattle.goblin_pe_sect.specs.AddressReadings.{data_at, relocation_data}
use Rattle.goblin_pe_symbol.specs.Symbols.{symbol_bytes}
use Rattle.goblin_pe_head.specs.declared.header.coff.CoffHeader.{CoffHeader}
use Rattle.goblin_pe_head.specs.{declared.header.te.TeHeader.TeHeader, CoffHeader.symbols_end}
use Rattle.goblin_pe_head.specs.{HeaderReadings.header_without_dos, PeHeader.header_value}
use Rattle.goblin_pe_head.specs.TeHeader.{te_image}
use Rattle.goblin_pe_head.specs.CoffReadings.{sections_at, strings_of, symbols_of}
use Rattle.goblin_pe.specs.declared.laws.parts.PartsOf.{PartsOf}

-- what contracts see of a Terse Executable's header and its sections
abbrev pub te_model : TeHeader × Vec Section Global → TeHeader × List Section
te_model image = (image.0, image.1.items)

-- What the readers read: the tables that a COFF header leads to, with its sections at an offset,
-- where a Terse Executable is read, too; and two directories.
pub record PartsAsked : Type 0 where
  pub coff_header : CoffHeader
  pub offset : ℕ
  pub relocations : DataDirectory
  pub value : DataDirectory

abbrev pub asked_by : CoffHeader → ℕ → DataDirectory → DataDirectory → PartsAsked
asked_by coff_header offset relocations value = record {
  coff_header = coff_header;
  offset = offset;
  relocations = relocations;
  value = value;
}

-- the sections that are read
abbrev pub sections_asked : Bool → PartsAsked → Reading (List Section)
sections_asked strict asked =
    sections_at strict (symbols_end asked.coff_header) asked.coff_header.number_of_sections
    asked.offset

-- Each answer is its reader's own for these bytes, over a map of addresses to file offsets.
pub record AreParts {D Y : Type 0} (model : D → Y) (value_of : Endian → List ℕ → Option (Y × ℕ))
    (refusal : Endian → List ℕ → ErrorOf → Type 0)
    (strict : Bool) (addressing : Addressing)
    (asked : PartsAsked) (bytes : List ℕ) (parts : PartsOf D) : Type 0 where
  pub header : Reads header_value parts.header header_without_dos bytes
  pub sections : ReadsOrMemory (λ v. v.items) parts.sections (sections_asked strict asked) bytes
  pub symbols : Reads (option_map symbol_bytes) parts.symbols (symbols_of asked.coff_header) bytes
  pub strings : Reads (λ t. t) parts.strings (strings_of asked.coff_header) bytes
  pub te : ReadsOrMemory te_model parts.te (te_image asked.offset) bytes
  pub relocations : Reads relocation_bytes parts.relocations
      (relocation_data addressing asked.relocations) bytes
  pub value : Reads model parts.value
      (data_at addressing.offset value_of refusal asked.value.virtual_address) bytes

-- The answers of each reader for two files. They are alike if the files agree on what the reader
-- reaches in the first.
pub record AreTwinParts {D Y : Type 0} (model : D → Y)
    (value_of : Endian → List ℕ → Option (Y × ℕ))
    (refusal : Endian → List ℕ → ErrorOf → Type 0)
    (strict : Bool) (addressing : Addressing)
    (asked : PartsAsked) (a b : List ℕ) (both : PartsOf D × PartsOf D) : Type 0 where
  pub header : Twins header_value header_without_dos a b (both.0.header, both.1.header)
  pub sections : TwinsOrMemory (λ v. v.items) (sections_asked strict asked) a b
      (both.0.sections, both.1.sections)
  pub symbols : Twins (option_map symbol_bytes) (symbols_of asked.coff_header) a b
      (both.0.symbols, both.1.symbols)
  pub strings : Twins (λ t. t) (strings_of asked.coff_header) a b
      (both.0.strings, both.1.strings)
  pub te : TwinsOrMemory te_model (te_image asked.offset) a b (both.0.te, both.1.te)
  pub relocations : Twins relocation_bytes (relocation_data addressing asked.relocations) a b
      (both.0.relocations, both.1.relocations)
  pub value : Twins model
      (data_at addressing.offset value_of refusal asked.value.virtual_address) a b
      (both.0.value, both.1.value)
