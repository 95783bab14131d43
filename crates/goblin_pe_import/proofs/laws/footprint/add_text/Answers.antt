use Rattle.std.proofs.Common.{◌∙◌, sym}
use Rattle.goblin_pe_sect.specs.Addresses.{map_of}
use Rattle.goblin_pe_import.proofs.Listed.{name-reaches}
use Rattle.goblin_pe_import.proofs.laws.footprint.add_text.Goals as goal

pub returns-in-Some-clause-added : goal.returns-in-Some-clause-added
returns-in-Some-clause-added c =
    let place = sym c.part_of-offset.ensures.offset ∙ c.in-Some.is in
    rw (name-reaches (map_of c.args.address_map.now).addressing c.args.bytes.now c.args.rva c.in-Some.offset place, ← c.part_of-offset.ensures.stored, ← c.stored.ensures, ← c.text_end.ensures)
    c.add.ensures.added
