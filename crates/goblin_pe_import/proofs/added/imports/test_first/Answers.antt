use Rattle.std.proofs.Common.{◌∙◌, sym}
use Rattle.goblin_pe_sect.specs.Addresses.{map_of, reads_strictly}
use Rattle.goblin_pe_import.proofs.added.TestedPieces.{first-tested}
use Rattle.goblin_pe_import.proofs.added.imports.test_first.Goals as goal

pub returns-clause-tests : goal.returns-clause-tests
returns-clause-tests g c =
    let m = map_of c.args.finder.now in
    first-tested (reads_strictly m) g.T.Bitfield.format m.addressing c.args.bytes.now c.args.tested c.args.entry.now c.test_table.result
    (sym c.reads_strictly.ensures ∙ c.if-reads_strictly.false) (rw c.address_table_rva.ensures at c.test_table.ensures.tests)
