-- A section that was read is written as its record, and one that was written is read again.
use Rattle.std.proofs.Common.{◌≡◌, ℕ, List, ap, refl, sym, ◌∙◌, length, arith, Option, Some, None}
use Rattle.goblin_base.specs.{declared.endian.Endian.TheVariants.Little, Answers.◌>>=◌}
use Rattle.goblin_base.specs.Record.{FieldValue, FieldsFit, ReadsBack, WritesBack, encoding, record_at}
use Rattle.goblin_base.proofs.RecordRoundTrip.{reads_back, writes_back}
use Rattle.goblin_base.proofs.Steps.{same_value, step}
use Rattle.goblin_pe_sect.specs.SectionName.{name_value}
use Rattle.goblin_pe_sect.specs.SectionReadings.{SectionWritesBack, named_section_at, text_in_table}
use Rattle.goblin_pe_sect.specs.SectionTable.{Section, SectionReadsBack, section_fields, section_record}

pub section_record_back : WritesBack 40 section_record section_fields
section_record_back = writes_back 40 section_record section_fields refl (λ endian own h. refl)

-- the real name is no field of the record
section_fields-unnamed : (section : Section) (real_name : Option (List ℕ)) → section_fields (record section { real_name = real_name }) ≡ section_fields section
section_fields-unnamed section real_name = refl

pub section_back : SectionWritesBack
unfolding named_section_at
section_back strict table bytes p section h is =
    let text : Option ℕ → Option (List ℕ) = λ (place : Option ℕ). (text_in_table table place).value bytes in
    let first = step (record_at 40 (section_record Little) bytes p) (λ s. name_value strict s.name >>= (λ v. Some (record s { real_name = text v }))) section is in
    let second = step (name_value strict first.value.name) (λ v. Some (record first.value { real_name = text v })) section first.then in
    let named = record first.value { real_name = text second.value } in
    let same : section_fields first.value ≡ section_fields section = sym (section_fields-unnamed first.value (text second.value)) ∙ ap section_fields (same_value named section second.then) in
    section_record_back Little bytes p first.value h first.is ∙ ap (λ (fields : List FieldValue). Some (encoding Little fields)) same

pub section_again : (s : Section) → length s.name ≡ 8 → FieldsFit (section_fields s) → SectionReadsBack s
unfolding ReadsBack SectionReadsBack
section_again s eight fit =
    reads_back 40 section_record section_fields (record s { real_name = None }) (rw eight refl) (omega arith) fit (λ endian own. rw eight refl) (λ endian own e. grind (arith, e))

pub ruleset round_trips = (section_record_back, section_back, section_again)
