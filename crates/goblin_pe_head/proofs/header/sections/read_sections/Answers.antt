use Rattle.std.proofs.Common.{◌+◌, ◌*◌, ℕ, List, ap, arith, subst, sym, ◌∙◌, Option, Some}
use Rattle.std.proofs.lemmas.Result.{err_from_is_err_and}
use Rattle.goblin_base.proofs.Steps.{all_at-each, all_at-more, all_at-none}
use Rattle.goblin_pe_sect.specs.{Options.is_strict, SectionReadings.named_section_at}
use Rattle.goblin_pe_sect.specs.SectionTable.{Section}
use Rattle.goblin_pe_head.specs.TeHeader.{moved_section}
use Rattle.goblin_pe_head.proofs.Sections.{moved-cause, moved-none, moved-value}
use Rattle.goblin_pe_head.proofs.header.sections.read_sections.Goals as goal

pub records-preserved : goal.records-preserved
records-preserved c =
    let strict = is_strict c.args.opts.now.parse_mode in
    let table = c.args.string_table_offset in
    let bytes = c.args.bytes.now in
    let move = c.args.displacement in
    let before = c.records.invariant in
    let at = c.args.offset.now + 40 * c.records.counter in
    let stored = sym (ap (λ (p : ℕ). (named_section_at strict table p).value bytes) before.end) ∙ c.in_ok-section.ensures.value in
    let here = moved-value strict table bytes at move c.in_ok-section.section stored ∙ ap (λ (s : Section). Some s) (sym c.adjust_section.ensures) in
    let more = all_at-more (λ i. (moved_section move strict table (c.args.offset.now + 40 * i)).value bytes) c.records.counter c.records.sections.items c.adjust_section.new.section before.read here in
    record {
      end = omega (arith, before.end, c.in_ok-section.ensures.ok);
      read = more ∙ ap (λ (xs : List Section). Some xs) (sym c.push_reserved.ensures.items);
      len = omega (arith, c.push_reserved.ensures.len, before.len);
      capacity = c.push_reserved.ensures.capacity ∙ before.capacity;
    }

pub returns-in_err-section-clause-value : goal.returns-in_err-section-clause-value
returns-in_err-section-clause-value c =
    let strict = is_strict c.args.opts.now.parse_mode in
    let table = c.args.string_table_offset in
    let bytes = c.args.bytes.now in
    let move = c.args.displacement in
    let value : ℕ → Option Section = λ (i : ℕ). (moved_section move strict table (c.args.offset.now + 40 * i)).value bytes in
    let i = c.records.counter in
    let at = c.records.invariant.end in
    let own = c.args.offset.now + 40 * i in
    let error = err_from_is_err_and c.from_residual-in_err-section.result c.from_residual-in_err-section.ensures.1 in
    rw (error.1, error.2) (λ no_memory.
    let fault = c.in_err-section.ensures.value no_memory in
    let none = moved-none strict table bytes own move (sym (ap (λ (p : ℕ). (named_section_at strict table p).value bytes) at) ∙ fault.0) in
    let cause = moved-cause strict table bytes own move c.in_err-section.field-0.0 (subst (λ (p : ℕ). (named_section_at strict table p).IsCause bytes c.in_err-section.field-0.0) at fault.1) in (
      all_at-none value c.args.count i c.records-test.true none,
      (i, c.records-test.true, all_at-each value i c.records.sections.items c.records.invariant.read, none, cause),
    ))
