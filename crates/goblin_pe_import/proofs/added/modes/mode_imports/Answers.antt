use Rattle.std.proofs.Common.{arith}
use Rattle.goblin_pe_sect.specs.Addresses.{map_of}
use Rattle.goblin_pe_import.proofs.added.WholeReads.{walks-whole}
use Rattle.goblin_pe_import.proofs.added.modes.mode_imports.Goals as goal

pub returns-clause-whole : goal.returns-clause-whole
returns-clause-whole g c strict permissive same =
    walks-whole g.T.Bitfield.format (map_of c.args.strict.now) (map_of c.args.permissive.now) c.args.bytes.now strict permissive
    same (omega arith) c.args.directory.virtual_address _ _ c.of-strictly.ensures.walks c.of-permissively.ensures.begins
