use Rattle.std.proofs.Common.{◌∙◌, ◌+◌, ap, sym, arith}
use Rattle.goblin_pe_sect.specs.SectionTable.{mapped_sections}
use Rattle.goblin_pe_c_headers.specs.Addresses.{mapped_model}
use Rattle.goblin_pe_c_headers.proofs.Holders.{held-index, held-section, left, left-memory, left-neither, left-none, left-window, length-first, passed, says}
use Rattle.goblin_pe_c_headers.proofs.memory.holder.Goals as goal
use Rattle.goblin_pe_c_headers.proofs.memory.holder.Goals.{then-is_among+else-is_among-2, else-is_among}

pub returns-in_default-clause-index : goal.returns-in_default-clause-index
returns-in_default-clause-index c = held-index _ _ _ (sym (c.sections.invariant.same ∙ left-none _ _ _ _ _ c.in_default.ensures))

pub returns-in_default-clause-section : goal.returns-in_default-clause-section
returns-in_default-clause-section c = held-section _ _ _ (sym (c.sections.invariant.same ∙ left-none _ _ _ _ _ c.in_default.ensures))

pub returns-then-is_among-2-clause-index : goal.returns-then-is_among-2-clause-index
returns-then-is_among-2-clause-index c =
    held-index _ _ _ (sym (c.sections.invariant.same ∙ left-window _ _ _ _ _ _ _ c.in-Some.ensures (says _ _ _ c.in-Some.section _ c.if-is_among-2.ensures c.window_size.ensures.value)))

pub returns-then-is_among-2-clause-section : goal.returns-then-is_among-2-clause-section
returns-then-is_among-2-clause-section c =
    held-section _ _ _ (sym (c.sections.invariant.same ∙ left-window _ _ _ _ _ _ _ c.in-Some.ensures (says _ _ _ c.in-Some.section _ c.if-is_among-2.ensures c.window_size.ensures.value)))

pub sections-preserved : goal.sections-preserved
sections-preserved c = record {
  count = omega (arith, c.sections.invariant.count, length-first _ _ _ c.in-Some.ensures);
  same = c.sections.invariant.same ∙ elim c.if-is_among.branch [
    | then-is_among+else-is_among-2 w ↦
        left-memory _ _ _ _ _ _ _ c.in-Some.ensures (says _ _ _ c.in-Some.section _ w.if-is_among-2.ensures w.window_size.ensures.value) (says _ _ _ c.in-Some.section _ w.if-is_among.ensures c.memory_length.ensures.value)
        ∙ ap (λ first. left (mapped_model c.args.mapped.now) c.args.rva (c.sections.index + 1) first (mapped_sections c.in-Some.later)) (sym w.or-first.ensures ∙ sym w.first-is)
    | else-is_among w ↦
        left-neither _ _ _ _ _ _ _ c.in-Some.ensures (says _ _ _ c.in-Some.section _ w.if-is_among.ensures c.memory_length.ensures.value)
        ∙ ap (λ first. left (mapped_model c.args.mapped.now) c.args.rva (c.sections.index + 1) first (mapped_sections c.in-Some.later)) (sym w.first-is)
  ];
}

pub returns-clause-index : goal.returns-clause-index
returns-clause-index c = held-index _ _ _ (sym (c.sections.invariant.same ∙ left-none _ _ _ _ _ (passed c.args.mapped.now.records _ _ c.sections.invariant.count (omega (arith, c.sections-test.false, c.len-index-end.ensures.value)))))

pub returns-clause-section : goal.returns-clause-section
returns-clause-section c = held-section _ _ _ (sym (c.sections.invariant.same ∙ left-none _ _ _ _ _ (passed c.args.mapped.now.records _ _ c.sections.invariant.count (omega (arith, c.sections-test.false, c.len-index-end.ensures.value)))))
