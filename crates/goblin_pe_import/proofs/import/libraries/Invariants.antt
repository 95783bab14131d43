use Rattle.std.proofs.Common.{None, length, ◌-◌}
use Rattle.readings.proofs.Loops.{AtRead}
use Rattle.goblin_pe_sect.specs.Addresses.{map_of, reads_strictly}
use Rattle.goblin_pe_import.specs.{ImportReadings.kept_library, ImportRecords.import_slots}
use Rattle.goblin_pe_import.proofs.import.libraries.Given as goal

abbrev pub invariant-records : goal.invariant-records
invariant-records g l =
    AtRead None import_slots
    (kept_library (reads_strictly (map_of l.fn.address_map)) g.T.Bitfield.format
    (map_of l.fn.address_map).addressing)
    l.fn.bytes l.fn.offset l.place l.libraries.items

abbrev pub decreases-records : goal.decreases-records
decreases-records g l = length l.fn.bytes - l.place
