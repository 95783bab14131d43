use Rattle.std.proofs.Common.{arith, rules, subst}
use Rattle.goblin_pe_sect.specs.{declared.address_map.AddressMap.AddressMap, Addresses.map_of}
use Rattle.goblin_pe_c_headers.specs.Onward.{GivesOnward, batch_at}
use Rattle.goblin_pe_export.specs.added.ExportWalks.{walked_tables}
use Rattle.goblin_pe_c_tables.specs.ExportDirectories.{addresses_for_c}
use Rattle.goblin_pe_c_tables.proofs.AddressBatches.{length-addresses, onward-none}
use Rattle.goblin_pe_c_tables.proofs.export_directory.fill_addresses.Goals as goal

pub returns-then-address_count-position : goal.returns-then-address_count-position
returns-then-address_count-position c =
    let addressing = (map_of c.args.finder.now).addressing in
    let tables = walked_tables c.args.exports.now in
    let count = c.address_count.ensures.value in
    rw c.at_room.ensures (onward-none (addresses_for_c addressing tables) c.args.position.now c.args.records.now (omega (arith, length-addresses addressing tables, count, c.if-address_count-position.true)))

pub returns : goal.returns
returns c =
    let tables = walked_tables c.args.exports.now in
    let old = batch_at c.args.position.now c.args.records.now in
    let new = batch_at c.fill_onward.new.position c.fill_onward.new.records in
    let own = (map_of c.address_map-address_map.result.now).addressing in
    let count = c.address_count.ensures.value in
    let fits = c.address_count.type_inv in
    subst (λ (f : AddressMap). GivesOnward (addresses_for_c (map_of f).addressing tables) old new c.fill_onward.result) c.address_map-address_map.ensures
    (c.fill_onward.ensures (addresses_for_c own tables) (omega (arith, length-addresses own tables, count, fits)) (search rules))
