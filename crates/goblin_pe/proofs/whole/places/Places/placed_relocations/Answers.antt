use Rattle.std.proofs.Common.{◌∙◌, ℕ, List, Option, option_map, subst, sym}
use Rattle.goblin_base.specs.{Parts.in_memory, Parts.stored, Reading.Reads}
use Rattle.goblin_pe_sect.specs.declared.options.ParseOptions.{ParseOptions}
use Rattle.goblin_pe_sect.specs.{AddressReadings.relocation_data, BaseRelocations.relocation_bytes}
use Rattle.goblin_pe_sect.specs.Options.{is_strict}
use Rattle.goblin_pe_sect.specs.Addresses.{map_of, reads_strictly, with_whole_names}
use Rattle.goblin_pe.specs.Whole.{BecomesPart, relocation_part}
use Rattle.goblin_pe.proofs.Parts.{becomes_read}
use Rattle.goblin_pe.proofs.whole.places.Places.placed_relocations.Goals as goal

pub returns-clause-value : goal.returns-clause-value
unfolding relocation_part relocation_data
returns-clause-value c =
    let map = map_of c.args.address_map.now in
    let directory = c.in-Some.directory in
    let read = subst
    (λ (o : Option ℕ).
    Reads relocation_bytes c.parse_at-data.result (relocation_data (with_whole_names (λ _. o)) directory) (in_memory (option_map stored (map.addressing.end directory.virtual_address)) c.args.bytes.now))
    c.part_of-offset.ensures.offset
    (subst
    (λ (part : List ℕ). Reads relocation_bytes c.parse_at-data.result (relocation_data (with_whole_names (λ _. c.part_of-offset.result.1)) directory) part)
    (c.stored.ensures ∙ c.part_of-offset.ensures.stored) c.parse_at-data.ensures) in
    let made : BecomesPart (reads_strictly map) c.parse_at-data.result c.part_of.result =
    subst
    (λ (o : ParseOptions). BecomesPart (is_strict o.parse_mode) c.parse_at-data.result c.part_of.result)
    c.opts.ensures c.part_of.ensures in
    rw (sym c.directory.ensures ∙ c.in-Some.is)
    (becomes_read relocation_bytes (relocation_data map.addressing directory) c.args.bytes.now
    (reads_strictly map) c.parse_at-data.result c.part_of.result read made)
