use Rattle.goblin_pe_c_headers.proofs.SeenBytes.{sees_file}
use Rattle.goblin_pe_c_headers.proofs.memory.memory_at.Goals as goal

pub returns-in_default-clause-file : goal.returns-in_default-clause-file
returns-in_default-clause-file c = sees_file c.args.image.now

pub returns-then-mapped-clause-file : goal.returns-then-mapped-clause-file
returns-then-mapped-clause-file c = sees_file c.args.image.now

pub returns-else-mapped-clause-file : goal.returns-else-mapped-clause-file
returns-else-mapped-clause-file c = sees_file c.args.image.now
