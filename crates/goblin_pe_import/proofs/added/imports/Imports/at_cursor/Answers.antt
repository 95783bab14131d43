use Rattle.std.proofs.Common.{rules}
use Rattle.goblin_pe_sect.specs.Addresses.{map_of}
use Rattle.goblin_pe_import.proofs.added.ImportCursors.{cursor_left_of}
use Rattle.goblin_pe_import.proofs.added.imports.Imports.at_cursor.Goals as goal

pub returns-clause-left : goal.returns-clause-left
returns-clause-left g c =
    cursor_left_of {T = g.row.T.Denot} (map_of c.args.finder) g.T.Bitfield.format c.args.bytes.now c.args.at (record { walk = c.if-is_some.walk; items = record {} }) (search rules)
