-- Auxiliary records that were read are written as they stood, and any that were written are read again.
use Rattle.std.proofs.Common.{refl, ◌≡◌, length, arith}
use Rattle.goblin_base.specs.Record.{WritesBack, FieldsFit, ReadsBack}
use Rattle.goblin_base.proofs.RecordRoundTrip.{writes_back, reads_back}
use Rattle.goblin_pe_symbol.specs.AuxiliarySymbols.{AuxBeginAndEndFunction, AuxFunctionDefinition, AuxSectionDefinition, AuxWeakExternal, begin_and_end_function_fields, begin_and_end_function_record, function_definition_fields, function_definition_record, section_definition_fields, section_definition_record, weak_external_fields, weak_external_record}

pub function_definition_back : WritesBack 18 function_definition_record function_definition_fields
function_definition_back = writes_back 18 function_definition_record function_definition_fields refl (λ endian own h. refl)

pub begin_and_end_function_back : WritesBack 18 begin_and_end_function_record begin_and_end_function_fields
begin_and_end_function_back = writes_back 18 begin_and_end_function_record begin_and_end_function_fields refl (λ endian own h. refl)

pub weak_external_back : WritesBack 18 weak_external_record weak_external_fields
weak_external_back = writes_back 18 weak_external_record weak_external_fields refl (λ endian own h. refl)

pub section_definition_back : WritesBack 18 section_definition_record section_definition_fields
section_definition_back = writes_back 18 section_definition_record section_definition_fields refl (λ endian own h. refl)

pub function_definition_again : (r : AuxFunctionDefinition) → length r.unused ≡ 2 → FieldsFit (function_definition_fields r) → ReadsBack 18 function_definition_record function_definition_fields r
function_definition_again r two fit =
    reads_back 18 function_definition_record function_definition_fields r (rw two refl) (omega arith) fit (λ endian own. rw two refl) (λ endian own e. grind (arith, e))

pub begin_and_end_function_again : (r : AuxBeginAndEndFunction) → length r.unused1 ≡ 4 → length r.unused2 ≡ 6 → length r.unused3 ≡ 2 → FieldsFit (begin_and_end_function_fields r) → ReadsBack 18 begin_and_end_function_record begin_and_end_function_fields r
begin_and_end_function_again r four six two fit =
    reads_back 18 begin_and_end_function_record begin_and_end_function_fields r (rw (four, six, two) refl) (omega arith) fit (λ endian own. rw (four, six, two) refl) (λ endian own e. grind (arith, e))

pub weak_external_again : (r : AuxWeakExternal) → length r.unused ≡ 10 → FieldsFit (weak_external_fields r) → ReadsBack 18 weak_external_record weak_external_fields r
weak_external_again r ten fit =
    reads_back 18 weak_external_record weak_external_fields r (rw ten refl) (omega arith) fit (λ endian own. rw ten refl) (λ endian own e. grind (arith, e))

pub section_definition_again : (r : AuxSectionDefinition) → length r.unused ≡ 3 → FieldsFit (section_definition_fields r) → ReadsBack 18 section_definition_record section_definition_fields r
section_definition_again r three fit =
    reads_back 18 section_definition_record section_definition_fields r (rw three refl) (omega arith) fit (λ endian own. rw three refl) (λ endian own e. grind (arith, e))

pub ruleset round_trips = (function_definition_back, function_definition_again, begin_and_end_function_back, begin_and_end_function_again, weak_external_back, weak_external_again, section_definition_back, section_definition_again)
