use Rattle.std.proofs.Common.{◌+◌, ◌*◌, ap, arith, inl, map, refl, subst, true, Some, option_map}
use Rattle.goblin_base.specs.{declared.error.CauseOf.TheVariants.StrippedSize, Reading.Reads}
use Rattle.readings.specs.Reads.{◌>>=◌, each, mapped, needs}
use Rattle.goblin_pe_sect.specs.{declared.options.ParseOptions.ParseOptions, Options.is_strict}
use Rattle.goblin_pe_sect.specs.SectionReadings.{named_section_at}
use Rattle.goblin_pe_sect.specs.SectionTable.{recorded_sections, unnamed}
use Rattle.goblin_pe_head.specs.TeHeader.{displacement, section_moved, moved_sections, te_sections_at}
use Rattle.goblin_pe_head.proofs.Sections.{in_room_made, records_by_displacement, te_sections_at-too_short}
use Rattle.goblin_pe_head.proofs.header.te.TeHeader.section_records.Goals as goal

pub returns-then-bytes-count-clause-value : goal.returns-then-bytes-count-clause-value
unfolding te_sections_at
returns-then-bytes-count-clause-value c =
    let short = c.if-bytes-count.true in
    (ap (option_map (map unnamed)) (te_sections_at-too_short c.args.self.now c.args.bytes.now c.args.offset.now short), inl (refl, refl, short))

pub returns-clause-value : goal.returns-clause-value
unfolding te_sections_at
returns-clause-value c =
    let header = c.args.self.now in
    let shift = displacement header in
    let d = c.in_ok-displacement.field-0 in
    let n = header.number_of_sections in
    let bytes = c.args.bytes.now in
    let p = c.args.offset.now in
    let made =
    subst (λ (opts : ParseOptions). Reads recorded_sections c.read_section_records.result (mapped (map unnamed) (each (λ i. named_section_at (is_strict opts.parse_mode) 0 (p + 40 * i)) n)) bytes)
    c.default.ensures (c.read_section_records.ensures.value 0) in
    in_room_made (λ r. map (section_moved shift) (recorded_sections r)) c.read_section_records.result n (map unnamed) (needs shift (StrippedSize header.stripped_size) >>= λ d. moved_sections (Some d) true 0 n p) bytes (omega (arith, c.if-bytes-count.false))
    (records_by_displacement recorded_sections c.read_section_records.result shift header.stripped_size d n bytes p c.in_ok-displacement.ensures made)
