use Rattle.std.proofs.Common.{◌+◌, ◌*◌, ◌/◌, ◌∙◌, ap, arith, length, sym, Some, ℕ, slice_range}
use Rattle.goblin_pe_c_headers.specs.Sections.{SectionRow, row_of}
use Rattle.goblin_pe_c_headers.proofs.GivenOnward.{index-full, row-end, row-more, row-start, row_inside, row_outside}
use Rattle.goblin_pe_c_headers.proofs.section.fill_sections.Goals as goal

pub records-init : goal.records-init
records-init c = row-start _ _ _ _

pub records-preserved : goal.records-preserved
records-preserved c =
    let headers = c.args.headers.now in
    let there = row_inside (λ (k : ℕ). row_of c.args.image.now k (slice_range headers (40 * k) (40 * k + 40))) (length headers / 40) c.records.index (omega (arith, c.if-there-index.false)) in
    row-more c.records.invariant _ (there ∙ ap (λ (r : SectionRow). Some r) (sym c.put_row.ensures))
    (omega (arith, c.records-test.true, c.records.auto.records))

pub returns-then-there-index : goal.returns-then-there-index
returns-then-there-index c =
    let headers = c.args.headers.now in
    let none = row_outside (λ (k : ℕ). row_of c.args.image.now k (slice_range headers (40 * k) (40 * k + 40))) (length headers / 40) c.records.index (omega (arith, c.if-there-index.true)) in
    rw c.ended.ensures (row-end c.records.invariant none (omega (arith, c.records-test.true, c.records.auto.records)))

pub returns : goal.returns
returns c =
    rw c.goes_on.ensures (index-full c.records.invariant _
    (omega (arith, c.records-test.false, c.records.auto.count-end, c.records.auto.records))
    (omega (arith, c.records-test.false, c.records.auto.count-end, c.records.auto.records)))
