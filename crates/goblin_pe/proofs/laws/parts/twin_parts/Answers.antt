use Rattle.goblin_pe.proofs.TwinParts.{are_twin_parts}
use Rattle.goblin_pe.proofs.laws.parts.twin_parts.Goals as goal

pub returns : goal.returns
returns g c = are_twin_parts _ _ _ _ _ _ _ _ _ _ c.both_of.ensures.first c.both_of.ensures.second
