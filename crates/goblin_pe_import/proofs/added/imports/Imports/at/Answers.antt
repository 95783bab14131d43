use Rattle.std.proofs.Common.{arith}
use Rattle.goblin_pe_sect.specs.Addresses.{map_of}
use Rattle.goblin_pe_import.proofs.{added.ImportsValue.imports-walked, LibraryIndexes.counted}
use Rattle.goblin_pe_import.proofs.added.imports.Imports.at.Goals as goal

pub returns-clause-walks : goal.returns-clause-walks
returns-clause-walks g c =
    imports-walked (map_of c.args.finder) g.T.Bitfield.format c.args.bytes.now c.args.offset c.at_cursor.ensures.wide (omega arith)
    (λ k. (let fits = c.type_inv.bytes k in grind (arith, fits))) c.at_cursor.result
    (rw c.before_record.ensures at c.at_cursor.ensures.at)

pub returns-clause-counted : goal.returns-clause-counted
returns-clause-counted g c = counted _ _ _ _ _
