use Rattle.goblin_pe_import.proofs.added.ImportFaults.{import-given}
use Rattle.goblin_pe_import.proofs.added.imports.ImportsIterator.next.Goals as goal

pub returns-clause-steps : goal.returns-clause-steps
returns-clause-steps g c =
    import-given g.T.Bitfield.format c.args.self.now _ c.next_within.result _ c.next_within.ensures
