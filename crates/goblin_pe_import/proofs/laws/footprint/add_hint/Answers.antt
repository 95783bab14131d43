use Rattle.std.proofs.Common.{◌∙◌, refl, sym}
use Rattle.std.proofs.lemmas.List.{append-nil, append_assoc}
use Rattle.goblin_pe_sect.specs.Addresses.{map_of, reads_strictly}
use Rattle.goblin_pe_import.proofs.Listed.{a_hint, no_hint}
use Rattle.goblin_pe_import.proofs.laws.footprint.add_hint.Goals as goal

pub returns-in_default-array_at-clause-added : goal.returns-in_default-array_at-clause-added
returns-in_default-array_at-clause-added c =
    let m = map_of c.args.address_map.now in
    let place = sym c.part_of-offset.ensures.offset ∙ c.in-Some.is in
    let none = rw c.part_of-offset.ensures.part at c.in_default-array_at.ensures.0 in
    rw (place, no_hint (reads_strictly m) (m.addressing.end c.args.rva) c.args.bytes.now c.args.rva c.in-Some.offset none, append-nil _) refl

pub returns-clause-added : goal.returns-clause-added
returns-clause-added c =
    let m = map_of c.args.address_map.now in
    let place = sym c.part_of-offset.ensures.offset ∙ c.in-Some.is in
    let hint = rw c.part_of-offset.ensures.part at c.in-Ok.ensures in
    rw (
      place,
      a_hint (reads_strictly m) (m.addressing.end c.args.rva) c.args.bytes.now c.args.rva c.in-Some.offset c.in-Ok.hint hint,
      ← c.part_of-offset.ensures.stored,
      ← c.stored-stored.ensures,
      ← append_assoc _ _ _,
      ← c.text_end.ensures,
    )
    (rw (c.in_ok-add.ensures.added, c.min.ensures) at c.add-2.ensures.added)
