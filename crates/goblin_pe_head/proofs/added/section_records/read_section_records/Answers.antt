use Rattle.std.proofs.Common.{◌≡◌, ◌+◌, ◌*◌, ℕ, Bor, List, None, Some, ap, arith, refl, sym, subst, ◌∙◌, option_map}
use Rattle.std.proofs.lemmas.Result.{err_from_is_err_and}
use Rattle.goblin_pe_sect.specs.{Options.is_strict, SectionReadings.named_section_at}
use Rattle.goblin_pe_sect.specs.SectionTable.{Section, sections_in, unnamed}
use Rattle.goblin_pe_head.proofs.added.SectionRecords.{section_end, section_more, sections_from, sections_of_got, unnamed_from, unnamed_refused}
use Rattle.goblin_pe_head.proofs.added.section_records.read_section_records.Goals as goal

pub records-preserved : goal.records-preserved
records-preserved c =
    let strict = is_strict c.args.opts.now.parse_mode in
    let bytes = c.args.bytes.now in
    let offset = c.args.offset.now in
    let before = c.records.invariant in
    let n = c.records.counter in
    let s = c.in_ok-parse_unnamed.field-0 in
    let next = λ (table : ℕ). subst (λ (p : ℕ). option_map unnamed ((named_section_at strict table p).value bytes) ≡ Some s) before.end (c.in_ok-parse_unnamed.ensures.value table) in
    record {
      end = omega (arith, before.end, c.in_ok-parse_unnamed.ensures.ok);
      within = λ some. omega (arith, before.end, c.in_ok-parse_unnamed.ensures.ok, section_end strict 0 bytes (offset + 40 * n) s (next 0));
      read = λ table. section_more strict table bytes offset n s (before.read table) (next table);
    }

pub returns-in_err-parse_unnamed-clause-value : goal.returns-in_err-parse_unnamed-clause-value
returns-in_err-parse_unnamed-clause-value c =
    let strict = is_strict c.args.opts.now.parse_mode in
    let bytes = c.args.bytes.now in
    let offset = c.args.offset.now in
    let before = c.records.invariant in
    let n = c.records.counter in
    let error = err_from_is_err_and c.from_residual.result c.from_residual.ensures.1 in
    rw (error.1, error.2) (λ table.
    let fault = subst (λ (p : ℕ). (option_map unnamed ((named_section_at strict table p).value bytes) ≡ None) × (named_section_at strict table p).IsCause bytes c.in_err-parse_unnamed.field-0.0) before.end (c.in_err-parse_unnamed.ensures.value table) in
    unnamed_refused strict table bytes offset c.args.count n (sections_from bytes offset n) c.in_err-parse_unnamed.field-0.0 c.records-test.true (before.read table) fault.0 fault.1)

pub returns-clause-value : goal.returns-clause-value
returns-clause-value c =
    let strict = is_strict c.args.opts.now.parse_mode in
    let bytes = c.args.bytes.now in
    let offset = c.args.offset.now in
    let before = c.records.invariant in
    let n = c.records.counter in
    let all : n ≡ c.args.count = omega (arith, c.records-test.false, c.records.auto.counter-end) in
    let got = ap (λ (x : Bor (List ℕ)). sections_in x.now) c.unwrap_or.ensures ∙ sections_of_got bytes offset c.records.end n _ c.get.result before.end before.within refl c.get.ensures.lookup in
    λ table.
    subst (λ (k : ℕ). unnamed_from strict table bytes offset k ≡ Some (sections_from bytes offset n)) all (before.read table)
    ∙ ap (λ (xs : List Section). Some xs) (sym (c.of-records.ensures.value ∙ got))
