-- What strict mode reads of a section, permissive mode reads, too.
use Rattle.std.proofs.Common.{ℕ, Bool, true, false, cond, List, Option, Some, None, nat_eq, slice_index}
use Rattle.goblin_base.specs.{declared.endian.Endian.TheVariants.Little, Bytes.bounded_text_at}
use Rattle.goblin_base.specs.Reading.{Reading, Repeats}
use Rattle.goblin_base.proofs.Kept.{Keeps}
use Rattle.readings.specs.Reads as reads
use Rattle.readings.specs.Reads.{mapped, record_at}
use Rattle.readings.proofs.Modes.{repeats-same, repeats-then}
use Rattle.goblin_pe_sect.specs.{Digits.numeral, declared.digits.Digits.TheVariants.Base64}
use Rattle.goblin_pe_sect.specs.SectionName.{decimal_number, name_value, text_value}
use Rattle.goblin_pe_sect.specs.SectionReadings.{name_number, named_section_at, real_name}
use Rattle.goblin_pe_sect.specs.SectionTable.{Section, section_record}

text_value-kept : (text : Option (List ℕ)) (number_of : List ℕ → Option ℕ) → Keeps (text_value true text number_of) (text_value false text number_of)
text_value-kept None number_of value e = absurd cc
text_value-kept (Some text) number_of value e = e

by_slashes : {A : Type 0} (one two : Bool) (x y z w other : Option A) → Keeps x z → Keeps y w → Keeps (cond one (cond two x y) other) (cond one (cond two z w) other)
by_slashes true true x y z w other first second = first
by_slashes true false x y z w other first second = second
by_slashes false two x y z w other first second = λ value e. e

pub name_value-kept : (name : List ℕ) → Keeps (name_value true name) (name_value false name)
unfolding name_value
name_value-kept name =
    by_slashes (nat_eq (slice_index name 0) 47) (nat_eq (slice_index name 1) 47)
    (text_value true (bounded_text_at name 2 6) (numeral Base64)) (text_value true (bounded_text_at name 1 7) decimal_number)
    (text_value false (bounded_text_at name 2 6) (numeral Base64)) (text_value false (bounded_text_at name 1 7) decimal_number) (Some None)
    (text_value-kept (bounded_text_at name 2 6) (numeral Base64)) (text_value-kept (bounded_text_at name 1 7) decimal_number)

repeats-name_number : (name : List ℕ) → Repeats (name_number true name) (name_number false name)
repeats-name_number name = record { kept = λ bytes. name_value-kept name }

pub repeats-named_section_at : (table p : ℕ) → Repeats (named_section_at true table p) (named_section_at false table p)
unfolding named_section_at
repeats-named_section_at table p =
    let own : Reading Section = record_at 40 (section_record Little) p in
    let named : Section → Option ℕ → Reading Section =
    λ (section : Section) (place : Option ℕ). mapped (λ name. record section { real_name = name }) (real_name table place) in
    repeats-then own own (λ section. reads.◌>>=◌ (name_number true section.name) (named section))
    (λ section. reads.◌>>=◌ (name_number false section.name) (named section)) (repeats-same own)
    (λ section. repeats-then (name_number true section.name) (name_number false section.name) (named section) (named section)
    (repeats-name_number section.name) (λ place. repeats-same (named section place)))
