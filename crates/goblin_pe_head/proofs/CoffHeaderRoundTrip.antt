-- A COFF header that was read is written as it stood, and one that was written is read again.
use Rattle.std.proofs.Common.{refl, arith}
use Rattle.goblin_base.specs.Record.{WritesBack, FieldsFit, ReadsBack}
use Rattle.goblin_base.proofs.RecordRoundTrip.{writes_back, reads_back}
use Rattle.goblin_pe_head.specs.CoffHeader.{CoffHeader, coff_fields, coff_header}

pub coff_back : WritesBack 20 coff_header coff_fields
coff_back = writes_back 20 coff_header coff_fields refl (λ endian own bytes. refl)

pub coff_again : (h : CoffHeader) → FieldsFit (coff_fields h) → ReadsBack 20 coff_header coff_fields h
coff_again h fit = reads_back 20 coff_header coff_fields h refl (omega arith) fit (λ endian own. refl) (λ endian own e. grind (arith, e))

pub ruleset round_trip = (coff_back, coff_again)
