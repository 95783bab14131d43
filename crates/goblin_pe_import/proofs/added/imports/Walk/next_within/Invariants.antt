use Rattle.goblin_pe_import.specs.Steps.{AreCounted, HasNotGrown}
use Rattle.goblin_pe_import.specs.Passed.{Count, HasRisen, count_of}
use Rattle.goblin_pe_import.specs.added.ImportWalks.{walk_passes}
use Rattle.goblin_pe_import.specs.added.StepsAhead.{walk_ahead}
use Rattle.goblin_pe_import.proofs.added.ImportSteps.{AtImports}
use Rattle.goblin_pe_import.proofs.added.imports.Walk.next_within.Given as goal

abbrev pub invariant-libraries : goal.invariant-libraries
invariant-libraries g l =
    AtImports g.T.Bitfield.format l.initial.self l.self
    × AreCounted l.initial.steps l.steps (walk_ahead g.T.Bitfield.format l.initial.self)
    (walk_ahead g.T.Bitfield.format l.self)
    × HasNotGrown l.initial.steps l.steps
    × ((k : Count)
    → HasRisen (count_of k l.initial.self.passed) (count_of k l.self.passed)
    (walk_passes g.T.Bitfield.format l.initial.self k) (walk_passes g.T.Bitfield.format l.self k))

abbrev pub decreases-libraries : goal.decreases-libraries
decreases-libraries g l = walk_ahead g.T.Bitfield.format l.self
