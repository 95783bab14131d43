-- Names change no offset.
use Rattle.std.proofs.Common.{◌≡◌, ℕ, Bool, true, false, cond, List, [], ◌∷◌, find, map, Option, None, Some, refl, ap, sym, ◌∙◌, option_map}
use Rattle.std.proofs.{Math.Path.fun_ext, lemmas.List.map-append}
use Rattle.std.specs.{Option.is_some, Int.is_power_of_two}
use Rattle.goblin_pe_sect.specs.Mapping.{all_ends_in, ends_in, file_offset, is_in_window, mapped_end, offset_in, read_size, window_bytes_end}
use Rattle.goblin_pe_sect.specs.SectionTable.{Section, front_section, unnamed, with_front}
use Rattle.goblin_pe_sect.specs.declared.options.Mapping.{Mapping}
use Rattle.goblin_pe_sect.specs.declared.options.ParseOptions.{ParseOptions}
use Rattle.goblin_pe_sect.specs.{declared.options.View.View, Options.mapping_in}
use Rattle.goblin_pe_sect.specs.Addresses.{map_in, map_to, table_offset, without_null}
use Rattle.std.specs.Option.{option_and_then}
use Rattle.goblin_base.specs.declared.mapped.MappedEnd.{MappedEnd}

unnamed_by : (b : Bool) (s : Section) (x y : Option Section) → x ≡ option_map unnamed y → cond b (Some (unnamed s)) x ≡ option_map unnamed (cond b (Some s) y)
unnamed_by true s x y e = refl
unnamed_by false s x y e = e

find_unnamed : (mapping : Mapping) (alignment rva : ℕ) (sections : List Section) → find (is_in_window mapping.view alignment rva) (map unnamed sections) ≡ option_map unnamed (find (is_in_window mapping.view alignment rva) sections)
unfolding read_size
find_unnamed mapping alignment rva [] = refl
find_unnamed mapping alignment rva (s ∷ sections) = unnamed_by (is_in_window mapping.view alignment rva s) s _ _ (find_unnamed mapping alignment rva sections)

offset_by : (mapping : Mapping) (alignment rva : ℕ) (found : Option Section) → option_map (λ s. offset_in mapping s rva) (option_map unnamed found) ≡ option_map (λ s. offset_in mapping s rva) found
offset_by mapping alignment rva None = refl
offset_by mapping alignment rva (Some s) = refl

-- names change no offset
pub unnamed_offsets : (mapping : Mapping) (sections : List Section) (alignment : ℕ) → file_offset mapping (map unnamed sections) alignment ≡ file_offset mapping sections alignment
unfolding file_offset
unnamed_offsets mapping sections alignment =
    fun_ext (λ (rva : ℕ).
    ap (λ (x : Option ℕ). cond mapping.resolve_rva (cond (is_power_of_two alignment) x None) (Some rva))
    (ap (option_map (λ s. offset_in mapping s rva)) (find_unnamed mapping alignment rva sections) ∙ offset_by mapping alignment rva (find (is_in_window mapping.view alignment rva) sections)))

end_by : (mapping : Mapping) (alignment : ℕ) (found : Option Section) → option_map (mapped_end mapping alignment) (option_map unnamed found) ≡ option_map (mapped_end mapping alignment) found
unfolding read_size
end_by mapping alignment None = refl
end_by mapping alignment (Some s) = refl

ends_by_test : (resolves even : Bool) (mapping : Mapping) (alignment : ℕ) (found : Option Section) → cond resolves (option_map (mapped_end mapping alignment) (cond even (option_map unnamed found) None)) None ≡ cond resolves (option_map (mapped_end mapping alignment) (cond even found None)) None
ends_by_test false even mapping alignment found = refl
ends_by_test true false mapping alignment found = refl
ends_by_test true true mapping alignment found = end_by mapping alignment found

-- nor where the bytes of a window end
unnamed_ends : (mapping : Mapping) (sections : List Section) (alignment : ℕ) → window_bytes_end mapping (map unnamed sections) alignment ≡ window_bytes_end mapping sections alignment
unfolding window_bytes_end
unnamed_ends mapping sections alignment =
    fun_ext (λ (rva : ℕ).
    ap (λ (x : Option Section). cond mapping.resolve_rva (option_map (mapped_end mapping alignment) (cond (is_power_of_two alignment) x None)) None)
    (find_unnamed mapping alignment rva sections)
    ∙ ends_by_test mapping.resolve_rva (is_power_of_two alignment) mapping alignment (find (is_in_window mapping.view alignment rva) sections))

unnamed_ends_with : (mapping : Mapping) (front : Option ℕ) (sections : List Section) (alignment : ℕ) → window_bytes_end mapping (with_front front (map unnamed sections)) alignment ≡ window_bytes_end mapping (with_front front sections) alignment
unnamed_ends_with mapping None sections alignment = unnamed_ends mapping sections alignment
unnamed_ends_with mapping (Some size) sections alignment =
    ap (λ (xs : List Section). window_bytes_end mapping xs alignment) (sym (map-append unnamed sections (front_section size ∷ [])))
    ∙ unnamed_ends mapping (with_front (Some size) sections) alignment

-- also with the file's front, which has no such name
unnamed_with : (mapping : Mapping) (front : Option ℕ) (sections : List Section) (alignment : ℕ) → file_offset mapping (with_front front (map unnamed sections)) alignment ≡ file_offset mapping (with_front front sections) alignment
unnamed_with mapping None sections alignment = unnamed_offsets mapping sections alignment
unnamed_with mapping (Some size) sections alignment =
    ap (λ (xs : List Section). file_offset mapping xs alignment) (sym (map-append unnamed sections (front_section size ∷ [])))
    ∙ unnamed_offsets mapping (with_front (Some size) sections) alignment

-- so maps by sections that differ in their names alone are the same
pub unnamed_map_in : (opts : ParseOptions) (view : View) (front : Option ℕ) (sections : List Section) (alignment : ℕ)
    → map_in opts (record { sections = map unnamed sections; view = view; front = front }) alignment ≡ map_in opts (record { sections = sections; view = view; front = front }) alignment
unnamed_map_in opts view front sections alignment =
    ap (λ (f : ℕ → Option ℕ). map_to opts (without_null (is_some front) f) (all_ends_in view (λ rva. ends_in view (option_and_then (λ _. window_bytes_end (mapping_in view opts) (with_front front (map unnamed sections)) alignment rva) (without_null (is_some front) f rva))))) (unnamed_with (mapping_in view opts) front sections alignment)
    ∙ ap (λ (f : ℕ → Option MappedEnd). map_to opts (table_offset (mapping_in view opts) (record { sections = sections; view = view; front = front }) alignment) (all_ends_in view (λ rva. ends_in view (option_and_then (λ _. f rva) (table_offset (mapping_in view opts) (record { sections = sections; view = view; front = front }) alignment rva))))) (unnamed_ends_with (mapping_in view opts) front sections alignment)
