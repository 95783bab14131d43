-- An export directory that was read is written as it stood, and one that was written is read again.
use Rattle.std.proofs.Common.{refl, arith}
use Rattle.goblin_base.specs.Record.{FieldsFit, ReadsBack, WritesBack}
use Rattle.goblin_base.proofs.RecordRoundTrip.{reads_back, writes_back}
use Rattle.goblin_pe_export.specs.ExportRecords.{ExportDirectoryTable}
use Rattle.goblin_pe_export.specs.ExportRecords.{export_directory_fields, export_directory_record}

pub export_directory_back : WritesBack 40 export_directory_record export_directory_fields
export_directory_back =
    writes_back 40 export_directory_record export_directory_fields refl (λ endian own h. refl)

pub export_directory_again : (t : ExportDirectoryTable) → FieldsFit (export_directory_fields t)
    → ReadsBack 40 export_directory_record export_directory_fields t
export_directory_again t fit =
    reads_back 40 export_directory_record export_directory_fields t refl (omega arith) fit
    (λ endian own. refl) (λ endian own e. grind (arith, e))

pub ruleset round_trip = (export_directory_back, export_directory_again)
