use Rattle.std.proofs.Common.{ap, arith, option_map}
use Rattle.std.proofs.lemmas.Result.{err_from_is_err_and}
use Rattle.goblin_pe_sect.specs.Addresses.{map_of}
use Rattle.goblin_pe.specs.Whole.{both_lists, table_places}
use Rattle.goblin_pe.proofs.ImportParts.{both_listed, data-refused, never_unlisted}
use Rattle.goblin_pe.proofs.whole.places.Places.import_lists.Goals as goal

pub returns-in_err-import_data-clause-made : goal.returns-in_err-import_data-clause-made
returns-in_err-import_data-clause-made c =
    let m = map_of c.args.address_map.now in
    let places = table_places c.args.self.now in
    let e = err_from_is_err_and c.from_residual.result c.from_residual.ensures.1 in
    rw (e.1, e.2)
    (λ other.
    let refused = data-refused m.opts m.addressing places c.args.bytes.now _ (c.in_err-import_data.ensures other) in
    (ap (option_map (both_lists places.magic)) refused.0, refused.1))

pub returns-in_err-imports-clause-made : goal.returns-in_err-imports-clause-made
returns-in_err-imports-clause-made c =
    let m = map_of c.args.address_map.now in
    let e = err_from_is_err_and c.from_residual-in_err-imports.result c.from_residual-in_err-imports.ensures.1 in
    rw (e.1, e.2)
    (λ other.
    absurd (never_unlisted m.opts m.addressing (table_places c.args.self.now) c.args.bytes.now
    (let fits = c.type_inv.bytes in grind (arith, fits)) (λ k. (let fits = c.type_inv.bytes in grind (arith, fits)))
    _ c.in_ok-import_data.ensures (rw c.opts.ensures at (c.in_err-imports.ensures other).0)))

pub returns-clause-made : goal.returns-clause-made
returns-clause-made c =
    let m = map_of c.args.address_map.now in
    both_listed m.opts m.addressing (table_places c.args.self.now) c.args.bytes.now
    (let fits = c.type_inv.bytes in grind (arith, fits)) (λ k. (let fits = c.type_inv.bytes in grind (arith, fits)))
    _ _ c.in_ok-import_data.ensures (rw c.opts.ensures at c.in_ok-imports.ensures)
