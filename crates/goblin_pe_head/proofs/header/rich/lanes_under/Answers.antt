use Rattle.goblin_pe_head.proofs.WordPlaces.{length-under, zero-under}
use Rattle.goblin_pe_head.proofs.header.rich.lanes_under.Goals as goal

pub returns-clause-size : goal.returns-clause-size
returns-clause-size c = length-under c.args.bytes.now c.args.at c.args.byte c.requires

pub returns-clause-zeros : goal.returns-clause-zeros
returns-clause-zeros c = zero-under c.args.bytes.now c.args.at c.args.byte c.requires
