use Rattle.std.proofs.Common.{◌≡◌, filter, take}
use Rattle.goblin_pe_sect.specs.WindowStretches.{window_meets}
use Rattle.goblin_pe_sect.proofs.windows.owners.meeting.Given as goal

abbrev pub invariant-windows : goal.invariant-windows
invariant-windows l = l.near.items ≡ filter (window_meets l.fn.first l.fn.last) (take l.window-index l.fn.windows)
