-- No character begins between here and the limit.
use Rattle.std.specs.Prelude.{◌≡◌, ◌≤◌}
use Rattle.goblin_pe_c_headers.specs.Names.{cut_end}
use Rattle.goblin_pe_c_headers.proofs.name.front_of.Given as goal

abbrev pub invariant-bytes : goal.invariant-bytes
invariant-bytes l = (cut_end l.text l.limit ≡ cut_end l.text l.end) × (l.end ≤ l.limit)

abbrev pub decreases-bytes : goal.decreases-bytes
decreases-bytes l = l.end
