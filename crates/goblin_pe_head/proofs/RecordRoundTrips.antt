-- Records that were read are written as they stood, and any that were written are read again: the fields of an optional header, the header of a Terse Executable, and an entry of a Rich header.
use Rattle.std.proofs.Common.{refl, arith}
use Rattle.goblin_base.specs.Record.{WritesBack, FieldsFit, ReadsBack}
use Rattle.goblin_base.proofs.RecordRoundTrip.{writes_back, reads_back}
use Rattle.goblin_pe_head.specs.RichMetadata.{RichMetadata, metadata_fields, metadata_record}
use Rattle.goblin_pe_head.specs.TeHeader.{TeHeader, te_fields, te_record}
use Rattle.goblin_pe_head.specs.OptionalHeader.{StandardFields32, StandardFields64, WindowsFields32, WindowsFields64, standard_32_record, standard_32_fields, standard_64_record, standard_64_fields, windows_32_record, windows_32_fields, windows_record, windows_record_fields}

pub standard_32_back : WritesBack 28 standard_32_record standard_32_fields
standard_32_back = writes_back 28 standard_32_record standard_32_fields refl (λ endian own bytes. refl)

pub standard_64_back : WritesBack 24 standard_64_record standard_64_fields
standard_64_back = writes_back 24 standard_64_record standard_64_fields refl (λ endian own bytes. refl)

pub windows_32_back : WritesBack 68 windows_32_record windows_32_fields
windows_32_back = writes_back 68 windows_32_record windows_32_fields refl (λ endian own bytes. refl)

pub windows_4_back : WritesBack 68 (windows_record 4) (windows_record_fields 4)
windows_4_back = writes_back 68 (windows_record 4) (windows_record_fields 4) refl (λ endian own bytes. refl)

pub windows_64_back : WritesBack 88 (windows_record 8) (windows_record_fields 8)
windows_64_back = writes_back 88 (windows_record 8) (windows_record_fields 8) refl (λ endian own bytes. refl)

pub standard_32_again : (f : StandardFields32) → FieldsFit (standard_32_fields f) → ReadsBack 28 standard_32_record standard_32_fields f
standard_32_again f fit = reads_back 28 standard_32_record standard_32_fields f refl (omega arith) fit (λ endian own. refl) (λ endian own e. grind (arith, e))

pub standard_64_again : (f : StandardFields64) → FieldsFit (standard_64_fields f) → ReadsBack 24 standard_64_record standard_64_fields f
standard_64_again f fit = reads_back 24 standard_64_record standard_64_fields f refl (omega arith) fit (λ endian own. refl) (λ endian own e. grind (arith, e))

pub windows_32_again : (f : WindowsFields32) → FieldsFit (windows_32_fields f) → ReadsBack 68 windows_32_record windows_32_fields f
windows_32_again f fit = reads_back 68 windows_32_record windows_32_fields f refl (omega arith) fit (λ endian own. refl) (λ endian own e. grind (arith, e))

pub windows_64_again : (f : WindowsFields64) → FieldsFit (windows_record_fields 8 f) → ReadsBack 88 (windows_record 8) (windows_record_fields 8) f
windows_64_again f fit = reads_back 88 (windows_record 8) (windows_record_fields 8) f refl (omega arith) fit (λ endian own. refl) (λ endian own e. grind (arith, e))

pub te_back : WritesBack 40 te_record te_fields
te_back = writes_back 40 te_record te_fields refl (λ endian own bytes. refl)

pub te_again : (h : TeHeader) → FieldsFit (te_fields h) → ReadsBack 40 te_record te_fields h
te_again h fit = reads_back 40 te_record te_fields h refl (omega arith) fit (λ endian own. refl) (λ endian own e. grind (arith, e))

pub metadata_back : WritesBack 8 metadata_record metadata_fields
metadata_back = writes_back 8 metadata_record metadata_fields refl (λ endian own h. refl)

pub metadata_again : (m : RichMetadata) → FieldsFit (metadata_fields m) → ReadsBack 8 metadata_record metadata_fields m
metadata_again m fit = reads_back 8 metadata_record metadata_fields m refl (omega arith) fit (λ endian own. refl) (λ endian own e. grind (arith, e))

pub ruleset te_round_trip = (te_back, te_again)

pub ruleset metadata_round_trip = (metadata_back, metadata_again)

pub ruleset round_trips = (
  standard_32_back,
  standard_32_again,
  standard_64_back,
  standard_64_again,
  windows_32_back,
  windows_32_again,
  windows_64_back,
  windows_64_again,
)
