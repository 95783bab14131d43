-- The records of a section table.
use Rattle.std.proofs.Common.{◌≡◌, ℕ, ◌+◌, ◌-◌, ◌*◌, ◌/◌, ◌<◌, ◌≤◌, List, [], ◌∷◌, length, map, take, Some, ap, sym, ◌∙◌, arith, slice_get, slice_range, length-drop}
use Rattle.std.specs.List.{range_with_len}
use Rattle.std.proofs.lemmas.List.FromFn.{get_or-map-range_with_len, length-map-range_with_len}
use Rattle.std.proofs.lemmas.Option.{slice_get-get_or}
use Rattle.goblin_base.specs.{declared.endian.Endian.TheVariants.Little, Tables.records_in}
use Rattle.goblin_base.proofs.Numbers.{rest_is_drop}
use Rattle.goblin_base.proofs.RecordItems.{length-records_in, records_in-more, records_in-none}
use Rattle.goblin_pe_sect.specs.SectionTable.{Section, section_record, sections_in}

pub length_sections : (bytes : List ℕ) → length (sections_in bytes) ≡ length bytes / 40
length_sections bytes = length-records_in 40 (section_record Little) bytes

-- a whole record comes first, then those after it
pub sections_more : (bytes : List ℕ) → 40 ≤ length bytes → sections_in bytes ≡ section_record Little (slice_range bytes 0 40) ∷ sections_in (slice_range bytes 40 (length bytes))
sections_more bytes le =
    let left = length-drop 40 bytes in
    records_in-more 40 ((length bytes - 40) / 40) (section_record Little) bytes (omega (arith, le)) (omega (arith, left))
    ∙ ap (λ (later : List ℕ). section_record Little (take 40 bytes) ∷ sections_in later) (sym (rest_is_drop bytes 40))

-- fewer bytes have no record
pub sections_none : (bytes : List ℕ) → length bytes < 40 → sections_in bytes ≡ []
sections_none bytes few = records_in-none 40 (section_record Little) bytes (omega (arith, few))

-- the section of a record is that of its 40 bytes
pub section_there : (bytes : List ℕ) (i : ℕ) → i < length bytes / 40 → slice_get (sections_in bytes) i ≡ Some (section_record Little (slice_range bytes (40 * i) (40 * i + 40)))
unfolding records_in
section_there bytes i within =
    let own : ℕ → Section = λ (i : ℕ). section_record Little (slice_range bytes (40 * i) (40 * i + 40)) in
    let all : List Section = map own (range_with_len 0 (length bytes / 40)) in
    slice_get-get_or all i (own i) (omega (arith, within, length-map-range_with_len own 0 (length bytes / 40)))
    ∙ ap (λ (s : Section). Some s) (get_or-map-range_with_len own 0 (length bytes / 40) i i (own i) within (omega arith))

pub ruleset sections = (sections_more, sections_none)
