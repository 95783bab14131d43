use Rattle.std.proofs.Common.{length, ◌-◌}
use Rattle.goblin_base.proofs.SlotFootprints.{AtRanges}
use Rattle.readings.proofs.Loops.{reach_of}
use Rattle.goblin_pe_import.specs.{ImportEntries.entry_slots, LookupReadings.entry_number}
use Rattle.goblin_pe_import.proofs.laws.footprint.add_address_table.Given as goal

abbrev pub invariant-slots : goal.invariant-slots
invariant-slots g l =
    AtRanges (entry_slots g.T.Bitfield.format) (reach_of entry_number l.fn.bytes) l.fn.bytes
    l.offset l.place l.initial.ranges.items l.ranges.items

abbrev pub decreases-slots : goal.decreases-slots
decreases-slots g l = length l.fn.bytes - l.place
