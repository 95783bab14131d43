use Rattle.std.proofs.Common.{◌≡◌, ◌+◌, ◌-◌, ◌≤◌, Some}
use Rattle.goblin_base.specs.{declared.error.ErrorOf.ErrorOf}
use Rattle.goblin_pe_import.specs.{LookupReadings.address_table, Steps.slots_ahead}
use Rattle.goblin_pe_import.proofs.added.TestedPieces.{is_read}
use Rattle.goblin_pe_import.proofs.added.tested.test_slots.Given as goal

abbrev pub invariant-slots : goal.invariant-slots
invariant-slots g l =
    let format = g.T.Bitfield.format in
    (l.count ≤ 64)
    × (slots_ahead format l.fn.bytes (Some l.fn.offset)
    ≡ l.count + slots_ahead format l.fn.bytes (Some l.place))
    × (is_read ((address_table format l.fn.offset).value l.fn.bytes)
    ≡ is_read ((address_table format l.place).value l.fn.bytes))
    × ((e : ErrorOf) → (address_table format l.place).IsCause l.fn.bytes e
    → (address_table format l.fn.offset).IsCause l.fn.bytes e)

abbrev pub decreases-slots : goal.decreases-slots
decreases-slots g l = 64 - l.count
