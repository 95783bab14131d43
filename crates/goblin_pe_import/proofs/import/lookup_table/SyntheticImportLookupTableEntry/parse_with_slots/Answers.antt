use Rattle.std.proofs.{Common.subst, Common.sym, lemmas.Result.err_from_is_err_and}
use Rattle.goblin_base.specs.Reading.{IsRefused}
use Rattle.goblin_pe_sect.specs.Addresses.{MapOfAddresses, reads_strictly}
use Rattle.goblin_pe_import.specs.LookupReadings as reading
use Rattle.goblin_pe_import.proofs.LookupSlots.{no_table}
use Rattle.goblin_pe_import.proofs.import.lookup_table.SyntheticImportLookupTableEntry.parse_with_slots.Goals as goal

pub returns-in_err-read-clause-value : goal.returns-in_err-read-clause-value
returns-in_err-read-clause-value g c =
    let error = err_from_is_err_and c.from_residual-in_err-read.result c.from_residual-in_err-read.ensures.1 in
    let Refuses : MapOfAddresses → Type 0 = λ m. IsRefused (reading.lookup_with_slots (reads_strictly m) g.T.Bitfield.format m.addressing c.args.offset) c.args.bytes.now c.in_err-read.field-0.0 in
    rw (error.1, error.2) (λ other.
    let here = subst Refuses (sym c.in_ok-address_map.ensures.made) (c.in_err-read.ensures.value other) in
    (no_table _ _ here.0, here.1))
