-- An import directory record that was read is written as it stood, and one that was written is read again.
use Rattle.std.proofs.Common.{refl, arith}
use Rattle.goblin_base.specs.Record.{FieldsFit, ReadsBack, WritesBack}
use Rattle.goblin_base.proofs.RecordRoundTrip.{reads_back, writes_back}
use Rattle.goblin_pe_import.specs.ImportRecords.{ImportDirectoryEntry, import_fields, import_record}

pub import_record_back : WritesBack 20 import_record import_fields
import_record_back = writes_back 20 import_record import_fields refl (λ endian own h. refl)

pub record_again : (r : ImportDirectoryEntry) → FieldsFit (import_fields r) → ReadsBack 20 import_record import_fields r
record_again r fit = reads_back 20 import_record import_fields r refl (omega arith) fit (λ endian own. refl) (λ endian own e. grind (arith, e))

pub ruleset round_trip = (import_record_back, record_again)
