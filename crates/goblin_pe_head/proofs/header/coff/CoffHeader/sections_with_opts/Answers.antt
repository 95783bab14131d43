use Rattle.std.proofs.Common.{None, arith, inl, refl}
use Rattle.goblin_pe_sect.specs.Options.{is_strict}
use Rattle.goblin_pe_head.specs.{CoffHeader.symbols_end, CoffReadings.sections_at}
use Rattle.goblin_pe_head.specs.TeHeader.{moved_sections}
use Rattle.goblin_pe_head.proofs.Sections.{in_room, sections_at-too_short}
use Rattle.goblin_pe_head.proofs.header.coff.CoffHeader.sections_with_opts.Goals as goal

pub returns-then-bytes-count-clause-value : goal.returns-then-bytes-count-clause-value
unfolding sections_at
returns-then-bytes-count-clause-value c =
    let short = c.if-bytes-count.true in
    let none = sections_at-too_short (is_strict c.args.opts.now.parse_mode) (symbols_end c.args.self.now) c.args.self.now.number_of_sections c.args.bytes.now c.args.offset.now short in
    λ _. (none, inl (refl, refl, short))

pub returns-clause-value : goal.returns-clause-value
unfolding sections_at
returns-clause-value c =
    let strict = is_strict c.args.opts.now.parse_mode in
    let count = c.args.self.now.number_of_sections in
    in_room (λ v. v.items) c.read_sections.result count (moved_sections None strict (symbols_end c.args.self.now) count c.args.offset.now) c.args.bytes.now (omega (arith, c.if-bytes-count.false))
    (rw (← c.symbols_end-table.ensures) c.read_sections.ensures.value)
