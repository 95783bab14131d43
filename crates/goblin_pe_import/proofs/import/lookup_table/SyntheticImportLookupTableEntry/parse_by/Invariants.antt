use Rattle.std.proofs.Common.{◌≡◌, map}
use Rattle.goblin_pe_sect.specs.Addresses.{map_of, reads_strictly}
use Rattle.goblin_pe_import.specs.{ImportLookup.entry_model, KeptEntries.slots_bound}
use Rattle.goblin_pe_import.proofs.LookupWalk.{AtEntries}
use Rattle.goblin_pe_import.proofs.import.lookup_table.SyntheticImportLookupTableEntry.parse_by.Given as goal

abbrev pub invariant-entries : goal.invariant-entries
invariant-entries g l =
    let m = map_of l.finder in
    AtEntries (reads_strictly m) g.T.Bitfield.format m.addressing l.fn.bytes l.fn.offset l.place
    (map entry_model l.entries.items) l.slots.items
    × (l.finder ≡ l.fn.address_map)

abbrev pub decreases-entries : goal.decreases-entries
decreases-entries g l = slots_bound l.fn.bytes l.place
