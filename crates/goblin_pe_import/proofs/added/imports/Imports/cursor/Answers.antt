use Rattle.goblin_pe_import.proofs.added.ImportCursors.{named-left}
use Rattle.goblin_pe_import.proofs.added.imports.Imports.cursor.Goals as goal

pub returns-clause-left : goal.returns-clause-left
returns-clause-left g c named = named-left g.T.Bitfield.format c.args.self.now.walk named
