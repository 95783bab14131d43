use Rattle.std.proofs.Common.{◌≡◌, ◌∙◌, None, arith, false, sym}
use Rattle.goblin_pe_sect.specs.Addresses.{map_of, offset_of, reads_strictly}
use Rattle.goblin_pe_import.specs.ImportReadings.{first_record_offset}
use Rattle.goblin_pe_import.proofs.added.ImportsValue.{imports-none}
use Rattle.goblin_pe_import.proofs.added.imports.Imports.of.Goals as goal

pub returns-in_default-clause-walks : goal.returns-in_default-clause-walks
returns-in_default-clause-walks g c =
    let m = map_of c.args.address_map.now in
    let rva = c.args.directory.virtual_address in
    let permissive : reads_strictly m ≡ false = sym c.reads_strictly-strictly.ensures ∙ c.if-strictly.false in
    let none : first_record_offset (reads_strictly m) (offset_of m rva) ≡ None =
    rw (← c.reads_strictly-strictly.ensures, ← c.of-finder.ensures, ← c.offset_of.ensures.value, ← c.first_record_offset.ensures) c.in_default.is in
    imports-none m g.T.Bitfield.format c.args.bytes.now rva permissive (omega arith) none c.at_cursor.result
    (rw (c.before_record-behind.ensures, c.offset_of.ensures.same, c.of-finder.ensures) at c.at_cursor.ensures.at)
