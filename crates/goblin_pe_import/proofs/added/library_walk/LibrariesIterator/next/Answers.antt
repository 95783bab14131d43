use Rattle.goblin_pe_import.proofs.added.LibrariesWalk.{library-given}
use Rattle.goblin_pe_import.proofs.added.library_walk.LibrariesIterator.next.Goals as goal

pub returns-clause-steps : goal.returns-clause-steps
returns-clause-steps c =
    library-given c.args.self.now _ c.next_within.result _ c.next_within.ensures
