-- What the callers count.
use Rattle.std.specs.Prelude.{ℕ, Bool, true, false, Option, drop, length}
use Rattle.std.specs.Option.{option_map}
use Rattle.goblin_pe.specs.declared.export.ExportAddressTableEntry.{ExportAddressTableEntry}
use Rattle.goblin_pe.specs.declared.export.ExportAddressTableEntry.TheVariants.{ExportRVA}
use Rattle.goblin_pe.specs.declared.export.ExportAddressTableEntry.TheVariants.{ForwarderRVA}
use Rattle.goblin_pe.specs.declared.options.ParseMode.TheVariants.{Permissive}
use Rattle.goblin_pe.specs.declared.options.ParseOptions.{ParseOptions}
use Rattle.goblin_pe.specs.added.Layouts.{read_or}
use Rattle.goblin_pe.specs.sect.Options.{default_options}
use Rattle.goblin_pe.specs.base.Reading.{Reading}
use Rattle.goblin_pe.specs.readings.Reads.{mapped}
use Rattle.goblin_pe.specs.head.RichMetadata.{metadata_items}
use Rattle.goblin_pe.specs.head.HeaderReadings.{rich_header}
use Rattle.goblin_pe.specs.Whole.{whole_file}

-- the options of permissive mode, which passes over damaged parts
abbrev pub permissive_options : ParseOptions
permissive_options = record default_options { parse_mode = Permissive }

-- how many functions a file imports in permissive mode
abbrev pub import_count : Reading ℕ
import_count = mapped (λ whole. read_or 0 length whole.imports) (whole_file permissive_options)

-- the number of entries of a file's Rich header, if it has one, plus one for an error if bytes are
-- left over
abbrev pub rich_entry_count : Reading (Option ℕ)
rich_entry_count =
    mapped (option_map (λ r. length (metadata_items r.key (drop r.padding_size r.bytes))))
    rich_header

-- whether the entry of an address table leads to a forwarder
abbrev pub leads_to_forwarder : ExportAddressTableEntry → Bool
leads_to_forwarder (ExportRVA rva) = false
leads_to_forwarder (ForwarderRVA rva) = true
