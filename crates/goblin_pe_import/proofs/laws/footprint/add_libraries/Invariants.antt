use Rattle.std.proofs.Common.{None, length, ◌-◌}
use Rattle.goblin_base.proofs.SlotFootprints.{AtRanges}
use Rattle.readings.proofs.Loops.{reach_of}
use Rattle.goblin_pe_sect.specs.Addresses.{map_of, reads_strictly, with_longest}
use Rattle.goblin_pe_import.specs.{ImportReadings.kept_library, ImportRecords.import_slots}
use Rattle.goblin_pe_import.proofs.laws.footprint.add_libraries.Given as goal

abbrev pub invariant-records : goal.invariant-records
invariant-records g l =
    AtRanges import_slots
    (reach_of (kept_library (reads_strictly (map_of l.fn.address_map)) g.T.Bitfield.format
    (with_longest None (map_of l.fn.address_map)).addressing) l.fn.bytes) l.fn.bytes l.fn.offset l.place
    l.initial.ranges.items l.ranges.items

abbrev pub decreases-records : goal.decreases-records
decreases-records g l = length l.fn.bytes - l.place
