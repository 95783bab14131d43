use Rattle.std.proofs.{Common.◌∙◌, Common.ap, Common.arith, Common.sym, lemmas.List.length-set}
use Rattle.goblin_pe_export.specs.added.ExportWalks.{walked_export}
use Rattle.goblin_pe_c_tables.specs.Exports.{export_with, forwarder_for_c}
use Rattle.goblin_pe_c_headers.proofs.Batches.{items-full}
use Rattle.goblin_pe_c_tables.proofs.ExportBatches.{exports-ended, exports-filled, exports-more, exports-through}
use Rattle.goblin_pe_c_tables.proofs.next.fill_exports.Goals as goal

pub ascii-init : goal.ascii-init
ascii-init c =
    let before = c.exports.invariant in
    let given = c.in-Some.ensures in
    let r = c.put_export.new.place in (
      exports-more before c.in-Some.export c.next_before.new.self r given.0.0 given.0.1 (omega (arith, given.1)) (omega (arith, given.2)) c.exports-test.true c.put_export.ensures,
      omega arith,
      λ below. omega (arith, below, c.end_within-stop.ensures.limit, c.saturating_sub-left.ensures, c.position.ensures),
      c.end_within-stop.ensures.within,
    )

pub ascii-preserved : goal.ascii-preserved
ascii-preserved c =
    let before = c.ascii.invariant in
    let given = c.in-Some-next_ascii.ensures in
    let r = c.export_record.result in
    let long = length-set c.ascii.records c.ascii.count r in
    let room = before.2 c.ascii-test.true in (
      exports-more before.0 c.in-Some-next_ascii.export c.next_ascii.new.self r given.steps.0 given.steps.1 (omega (arith, given.further)) (omega (arith, given.further, room, c.ascii-test.true))
          (omega (arith, c.ascii-test.true, before.3)) (c.export_record.ensures ∙ ap (export_with c.args.longest (walked_export c.in-Some-next_ascii.export)) (c.no_forwarder.ensures ∙ ap (forwarder_for_c c.args.longest) (sym given.unforwarded))),
      omega (arith, before.1),
      λ below. omega (arith, below, room, given.further),
      omega (arith, before.3, long),
    )

pub returns-in_default-clause-filled : goal.returns-in_default-clause-filled
returns-in_default-clause-filled c =
    exports-ended c.exports.invariant c.next_before.new.self c.exports-test.true c.in_default.ensures

pub returns-in_default-clause-through : goal.returns-in_default-clause-through
returns-in_default-clause-through c =
    exports-through c.exports.invariant c.next_before.new.self c.in_default.ensures

pub returns : goal.returns
returns c =
    let before = c.exports.invariant in
    record {
      filled = items-full before.at c.exports-test.false;
      over = before.over;
      further = before.further;
      within = before.within;
      through = exports-filled before c.exports-test.false;
    }
