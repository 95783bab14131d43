-- Relocations and words that were read are written as they stood, and any that were written are read again.
use Rattle.std.proofs.Common.{refl, arith}
use Rattle.goblin_base.specs.Record.{WritesBack, FieldsFit, ReadsBack}
use Rattle.goblin_base.proofs.RecordRoundTrip.{writes_back, reads_back}
use Rattle.goblin_pe_sect.specs.Relocations.{Relocation, relocation_fields, relocation_record}
use Rattle.goblin_pe_sect.specs.BaseRelocations.{RelocationWord, word_fields, word_record}

pub relocation_back : WritesBack 10 relocation_record relocation_fields
relocation_back = writes_back 10 relocation_record relocation_fields refl (λ endian own h. refl)

pub word_back : WritesBack 2 word_record word_fields
word_back = writes_back 2 word_record word_fields refl (λ endian own h. refl)

pub relocation_again : (r : Relocation) → FieldsFit (relocation_fields r) → ReadsBack 10 relocation_record relocation_fields r
relocation_again r fit = reads_back 10 relocation_record relocation_fields r refl (omega arith) fit (λ endian own. refl) (λ endian own e. grind (arith, e))

pub word_again : (r : RelocationWord) → FieldsFit (word_fields r) → ReadsBack 2 word_record word_fields r
word_again r fit = reads_back 2 word_record word_fields r refl (omega arith) fit (λ endian own. refl) (λ endian own e. grind (arith, e))

pub ruleset round_trips = (relocation_back, relocation_again, word_back, word_again)
