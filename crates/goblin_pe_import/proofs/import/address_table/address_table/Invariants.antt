use Rattle.std.proofs.Common.{None, length, ◌-◌}
use Rattle.readings.proofs.Loops.{AtRead}
use Rattle.goblin_pe_import.specs.{ImportEntries.entry_slots, LookupReadings.entry_number}
use Rattle.goblin_pe_import.proofs.import.address_table.address_table.Given as goal

abbrev pub invariant-slots : goal.invariant-slots
invariant-slots g l =
    AtRead None (entry_slots g.T.Bitfield.format) entry_number l.fn.bytes l.fn.offset l.place
    l.addresses.items

abbrev pub decreases-slots : goal.decreases-slots
decreases-slots g l = length l.fn.bytes - l.place
