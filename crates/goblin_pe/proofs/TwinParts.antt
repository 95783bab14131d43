-- The readers of headers and of single tables have the same values, and answer alike, for files
-- that agree on what each reaches.
use Rattle.std.proofs.Common.{ℕ, Bool, List, Option, option_map}
use Rattle.goblin_base.specs.{declared.endian.Endian.Endian, declared.error.ErrorOf.ErrorOf}
use Rattle.goblin_base.proofs.Readings.{twins, twins_or_memory}
use Rattle.goblin_pe_sect.specs.AddressReadings.{data_at, relocation_data}
use Rattle.goblin_pe_sect.specs.{BaseRelocations.relocation_bytes, Addresses.Addressing}
use Rattle.goblin_pe_symbol.specs.Symbols.{symbol_bytes}
use Rattle.goblin_pe_head.specs.CoffReadings.{strings_of, symbols_of}
use Rattle.goblin_pe_head.specs.{HeaderReadings.header_without_dos, PeHeader.header_value}
use Rattle.goblin_pe_head.specs.TeHeader.{te_image}
use Rattle.goblin_pe.specs.declared.laws.parts.PartsOf.{PartsOf}
use Rattle.goblin_pe.specs.TwinParts.{AreParts, AreTwinParts, PartsAsked, sections_asked, te_model}

pub are_twin_parts : {D Y : Type 0} (model : D → Y)
    (value_of : Endian → List ℕ → Option (Y × ℕ))
    (refusal : Endian → List ℕ → ErrorOf → Type 0)
    (strict : Bool) (addressing : Addressing) (asked : PartsAsked) (a b : List ℕ)
    (first second : PartsOf D)
    → AreParts model value_of refusal strict addressing asked a first
    → AreParts model value_of refusal strict addressing asked b second
    → AreTwinParts model value_of refusal strict addressing asked a b (first, second)
are_twin_parts model value_of refusal strict addressing asked a b first second one two =
    record {
      header = twins header_value header_without_dos a b _ _ one.header two.header;
      sections =
          twins_or_memory (λ v. v.items) (sections_asked strict asked) a b _ _ one.sections
          two.sections;
      symbols =
          twins (option_map symbol_bytes) (symbols_of asked.coff_header) a b _ _ one.symbols
          two.symbols;
      strings = twins (λ t. t) (strings_of asked.coff_header) a b _ _ one.strings two.strings;
      te = twins_or_memory te_model (te_image asked.offset) a b _ _ one.te two.te;
      relocations =
          twins relocation_bytes (relocation_data addressing asked.relocations) a b _ _
          one.relocations two.relocations;
      value =
          twins model (data_at addressing.offset value_of refusal asked.value.virtual_address)
          a b _ _ one.value two.value;
    }
