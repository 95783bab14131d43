use Rattle.std.proofs.{Common.ap, Common.◌∙◌, lemmas.List.append_assoc}
use Rattle.goblin_pe_sect.specs.Addresses.{map_of, offset_of}
use Rattle.goblin_pe_import.specs.ImportReadings.{library_of}
use Rattle.goblin_pe_import.proofs.laws.footprint.add_library.Goals as goal

pub returns-clause-added : goal.returns-clause-added
unfolding library_of
returns-clause-added g c =
    let place = c.offset_of-addresses.ensures ∙ ap (offset_of (map_of c.args.address_map.now)) c.address_table_rva.ensures in
    let lookup = rw c.of.ensures at c.lookup_offset-lookup.ensures.value in
    rw (← lookup, ← place, ← append_assoc _ _ _, ← append_assoc _ _ _, ← c.in_ok-add_text.ensures.added, ← c.in_ok-add_lookup_table.ensures.added)
    c.add_address_table.ensures.added
