use Rattle.std.proofs.{Common.sym, lemmas.List.append-nil}
use Rattle.goblin_base.proofs.SlotFootprints.{ranges-end, ranges-next}
use Rattle.goblin_pe_import.proofs.laws.footprint.add_address_table.Goals as goal

pub slots-preserved-in-Some-next_entry : goal.slots-preserved-in-Some-next_entry
slots-preserved-in-Some-next_entry g c =
    rw c.size_of-size.ensures.width
    (ranges-next _ _ _ _ _ _ _ c.slots.invariant _ _ c.in-Some-next_entry.ensures.0 c.in-Some-next_entry.ensures.1 (sym (append-nil _)))

pub returns-clause-added : goal.returns-clause-added
returns-clause-added g c =
    rw (c.in-Some.is, ← ranges-end _ _ _ _ _ _ _ c.slots.invariant c.in_default-next_entry.ensures, ← c.size_of-size.ensures.width)
    c.add_slots.ensures.added
