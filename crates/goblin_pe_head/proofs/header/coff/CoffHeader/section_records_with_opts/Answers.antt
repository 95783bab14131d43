use Rattle.std.proofs.Common.{None, ap, arith, inl, map, refl, option_map}
use Rattle.goblin_pe_sect.specs.Options.{is_strict}
use Rattle.goblin_pe_sect.specs.SectionTable.{recorded_sections, unnamed}
use Rattle.goblin_pe_head.specs.{CoffHeader.symbols_end, CoffReadings.sections_at}
use Rattle.goblin_pe_head.specs.TeHeader.{moved_sections}
use Rattle.goblin_pe_head.proofs.Sections.{in_room_made, sections_at-too_short}
use Rattle.goblin_pe_head.proofs.header.coff.CoffHeader.section_records_with_opts.Goals as goal

pub returns-then-bytes-count-clause-value : goal.returns-then-bytes-count-clause-value
unfolding sections_at
returns-then-bytes-count-clause-value c =
    let short = c.if-bytes-count.true in
    let none = sections_at-too_short (is_strict c.args.opts.now.parse_mode) (symbols_end c.args.self.now) c.args.self.now.number_of_sections c.args.bytes.now c.args.offset.now short in
    (ap (option_map (map unnamed)) none, inl (refl, refl, short))

pub returns-clause-value : goal.returns-clause-value
unfolding sections_at
returns-clause-value c =
    let strict = is_strict c.args.opts.now.parse_mode in
    let table = symbols_end c.args.self.now in
    let count = c.args.self.now.number_of_sections in
    in_room_made recorded_sections c.read_section_records.result count (map unnamed) (moved_sections None strict table count c.args.offset.now) c.args.bytes.now (omega (arith, c.if-bytes-count.false))
    (c.read_section_records.ensures.value table)
