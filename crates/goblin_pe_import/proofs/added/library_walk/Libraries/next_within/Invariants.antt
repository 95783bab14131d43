use Rattle.std.specs.Prelude.{None}
use Rattle.goblin_pe_import.specs.added.Libraries.{MovesWithin, libraries_steps}
use Rattle.goblin_pe_import.proofs.added.library_walk.Libraries.next_within.Given as goal

abbrev pub invariant-looks : goal.invariant-looks
invariant-looks l = MovesWithin l.initial.self l.initial.steps None l.self l.steps

abbrev pub decreases-looks : goal.decreases-looks
decreases-looks l = libraries_steps l.self
