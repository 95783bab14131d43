use Rattle.goblin_base.proofs.SlotFootprints.{ranges-end, ranges-next}
use Rattle.goblin_pe_import.proofs.laws.footprint.add_libraries.Goals as goal

pub records-preserved : goal.records-preserved
records-preserved g c =
    ranges-next _ _ _ _ _ _ _ c.records.invariant _ _ c.in-Some.ensures.0 c.in-Some.ensures.1 c.in_ok-add_library.ensures.added

pub returns-clause-added : goal.returns-clause-added
returns-clause-added g c = rw (← ranges-end _ _ _ _ _ _ _ c.records.invariant c.in_default.ensures) c.add_slots.ensures.added
