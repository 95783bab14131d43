use Rattle.goblin_base.proofs.SlotFootprints.{ranges-end, ranges-next}
use Rattle.goblin_pe_import.specs.ImportReadings.{lookup_if}
use Rattle.goblin_pe_import.proofs.laws.footprint.add_lookup_table.Goals as goal

pub slots-preserved : goal.slots-preserved
slots-preserved g c =
    rw c.size_of-size.ensures.width
    (ranges-next _ _ _ _ _ _ _ c.slots.invariant _ _ c.in-Some-next_entry.ensures.0 c.in-Some-next_entry.ensures.1 c.in_ok-add_entry.ensures.added)

pub returns-clause-added : goal.returns-clause-added
unfolding lookup_if
returns-clause-added g c =
    rw (c.in-Some.is, ← ranges-end _ _ _ _ _ _ _ c.slots.invariant c.in_default-next_entry.ensures, ← c.size_of-size.ensures.width)
    c.add_slots.ensures.added
