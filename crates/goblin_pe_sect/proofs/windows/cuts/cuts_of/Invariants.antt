use Rattle.goblin_pe_sect.proofs.Cuts.{HasCuts}
use Rattle.goblin_pe_sect.proofs.windows.cuts.cuts_of.Given as goal

abbrev pub invariant-loop-section : goal.invariant-loop-section
invariant-loop-section l = HasCuts l.fn.view l.sections l.file_alignment l.points.items l.section-index
