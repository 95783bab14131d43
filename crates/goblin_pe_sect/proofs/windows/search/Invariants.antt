use Rattle.std.proofs.Common.{◌*◌, ◌-◌, ◌^◌, ◌<◌}
use Rattle.goblin_pe_sect.proofs.Halving.{IsSearched}
use Rattle.goblin_pe_sect.proofs.windows.search.Given as goal

abbrev pub invariant-halving : goal.invariant-halving
invariant-halving l = IsSearched l.bounds l.rva l.low l.high l.probes × (2 * l.high < 2 ^ 64)

abbrev pub decreases-halving : goal.decreases-halving
decreases-halving l = l.high - l.low
