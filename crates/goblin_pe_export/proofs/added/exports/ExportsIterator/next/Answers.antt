use Rattle.std.proofs.Common.{arith}
use Rattle.goblin_pe_export.proofs.added.ExportWalk.{given-all}
use Rattle.goblin_pe_export.proofs.added.exports.ExportsIterator.next.Goals as goal

pub returns-clause-steps : goal.returns-clause-steps
returns-clause-steps c =
    given-all _ c.args.self.now c.next_before.new.self c.next_before.result c.next_before.ensures (omega (arith, c.pointers-end.ensures))
