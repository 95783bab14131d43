-- What strict mode reads of headers, permissive mode reads, too.
use Rattle.std.proofs.Common.{ℕ, ◌+◌, ◌*◌, true, false, List, Option}
use Rattle.goblin_base.specs.Reading.{Repeats}
use Rattle.goblin_base.proofs.Kept.{Keeps, all_at-kept}
use Rattle.readings.specs.Reads.{◌beside◌}
use Rattle.readings.proofs.Modes.{repeats-beside, repeats-mapped, repeats-or_else, repeats-same, repeats-then}
use Rattle.goblin_pe_sect.specs.SectionReadings.{named_section_at}
use Rattle.goblin_pe_sect.proofs.PermissiveReads.{repeats-named_section_at}
use Rattle.goblin_pe_head.specs.CoffReadings as coff
use Rattle.goblin_pe_head.specs.{DosStub.default_stub, RichHeader.Rich}
use Rattle.goblin_pe_head.specs.HeaderReadings as reading
use Rattle.goblin_pe_head.specs.HeaderReadings.{SignedParts, header_of}

-- only the stub differs
pub repeats-header : Repeats (reading.pe_header true) (reading.pe_header false)
unfolding reading.pe_header reading.stub_in
repeats-header =
    repeats-then reading.dos_header reading.dos_header (reading.header_after true)
    (reading.header_after false) (repeats-same reading.dos_header) (λ dos.
    let stub = reading.stub_at dos.pe_pointer in
    let rest = reading.rich_and_parts dos.pe_pointer in
    repeats-mapped
    (λ (all : List ℕ × (Option Rich × SignedParts)). header_of dos all.0 all.1.0 all.1.1)
    (reading.stub_in true dos.pe_pointer beside rest)
    (reading.stub_in false dos.pe_pointer beside rest)
    (repeats-beside (reading.stub_in true dos.pe_pointer) (reading.stub_in false dos.pe_pointer)
    rest rest (repeats-or_else default_stub stub stub (repeats-same stub)) (repeats-same rest)))

pub sections_at-kept : (table n : ℕ) (bytes : List ℕ) (p : ℕ)
    → Keeps ((coff.sections_at true table n p).value bytes)
    ((coff.sections_at false table n p).value bytes)
unfolding coff.sections_at
sections_at-kept table n bytes p =
    all_at-kept (λ i. (named_section_at true table (p + 40 * i)).value bytes)
    (λ i. (named_section_at false table (p + 40 * i)).value bytes) n
    (λ i. (repeats-named_section_at table (p + 40 * i)).kept bytes)
