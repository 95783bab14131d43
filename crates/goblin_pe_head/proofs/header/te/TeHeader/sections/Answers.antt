use Rattle.std.proofs.Common.{inl, refl}
use Rattle.goblin_pe_head.specs.TeHeader.{te_sections_at}
use Rattle.goblin_pe_head.proofs.Sections.{te_sections_at-too_short}
use Rattle.goblin_pe_head.proofs.header.te.TeHeader.sections.Goals as goal

pub returns-then-bytes-count-clause-value : goal.returns-then-bytes-count-clause-value
unfolding te_sections_at
returns-then-bytes-count-clause-value c =
    λ _. (te_sections_at-too_short c.args.self.now c.args.bytes.now c.args.offset.now c.if-bytes-count.true, inl (refl, refl, c.if-bytes-count.true))
