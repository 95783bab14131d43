use Rattle.std.proofs.lemmas.Result.{err_from_is_err_and}
use Rattle.goblin_pe_sect.specs.Addresses.{map_of}
use Rattle.goblin_pe_export.specs.ExportRecords.{read_rows}
use Rattle.goblin_pe.specs.Whole.{both_lists, part_map, table_places}
use Rattle.goblin_pe.proofs.Collected.{all-read, first-refused, second-refused, third-refused}
use Rattle.goblin_pe.proofs.whole.places.Places.listed.Goals as goal

pub returns-in_err-imports-clause-made : goal.returns-in_err-imports-clause-made
returns-in_err-imports-clause-made c =
    let m = map_of c.args.address_map.now in
    let places = table_places c.args.self.now in
    let error = err_from_is_err_and c.from_residual.result c.from_residual.ensures.1 in
    rw (error.1, error.2)
    (λ other. first-refused (both_lists places.magic) (part_map read_rows) m.opts m.addressing places c.args.bytes.now _ (c.in_err-imports.ensures.made other))

pub returns-in_err-exports-clause-made : goal.returns-in_err-exports-clause-made
returns-in_err-exports-clause-made c =
    let m = map_of c.args.address_map.now in
    let places = table_places c.args.self.now in
    let error = err_from_is_err_and c.from_residual-in_err-exports.result c.from_residual-in_err-exports.ensures.1 in
    rw (error.1, error.2)
    (λ other. second-refused (both_lists places.magic) (part_map read_rows) m.opts m.addressing places c.args.bytes.now _ _ c.in_ok-imports.ensures.made (c.in_err-exports.ensures other))

pub returns-in_err-relocations-clause-made : goal.returns-in_err-relocations-clause-made
returns-in_err-relocations-clause-made c =
    let m = map_of c.args.address_map.now in
    let places = table_places c.args.self.now in
    let error = err_from_is_err_and c.from_residual-in_err-relocations.result c.from_residual-in_err-relocations.ensures.1 in
    rw (error.1, error.2)
    (λ other. third-refused (both_lists places.magic) (part_map read_rows) m.opts m.addressing places c.args.bytes.now _ _ _ c.in_ok-imports.ensures.made c.in_ok-exports.ensures c.in_err-relocations.ensures)

pub returns-clause-made : goal.returns-clause-made
returns-clause-made c =
    let m = map_of c.args.address_map.now in
    let places = table_places c.args.self.now in
    all-read (both_lists places.magic) (part_map read_rows) m.opts m.addressing places c.args.bytes.now _ _ _ c.in_ok-imports.ensures.made c.in_ok-exports.ensures c.in_ok-relocations.ensures
