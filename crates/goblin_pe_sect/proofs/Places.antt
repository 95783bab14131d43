-- The places of addresses, and what a read there sees.
use Rattle.std.proofs.Common.{◌≡◌, ℕ, Bool, true, false, cond, find, List, Option, Some, None, refl, ap, ◌∙◌}
use Rattle.std.specs.{Int.is_power_of_two, Option.option_and_then, Option.option_map}
use Rattle.goblin_base.specs.declared.mapped.MappedEnd.{MappedEnd}
use Rattle.goblin_base.specs.Parts.{end_or_none, in_memory, no_end, stored}
use Rattle.goblin_pe_sect.specs.declared.address_map.AddressMap.{AddressMap}
use Rattle.goblin_pe_sect.specs.declared.address_map.Windows.{Windows}
use Rattle.goblin_pe_sect.specs.declared.address_map.run.Place.{Place}
use Rattle.goblin_pe_sect.specs.declared.options.{ParseOptions.ParseOptions, View.View}
use Rattle.goblin_pe_sect.specs.declared.options.View.TheVariants.{LoadedSections, Loader, Sections}
use Rattle.goblin_pe_sect.specs.{SectionTable.Section, declared.options.Mapping.Mapping}
use Rattle.goblin_pe_sect.specs.Mapping.{all_ends_in, ends_in, file_end, file_offset, file_place, is_in_window, mapped_end, offset_in, window_bytes_end}
use Rattle.goblin_pe_sect.specs.Addresses.{Indexed, IsEndOf, Walked, end_by_windows, map_of, offset_by_windows, offset_of, place_of}

-- what is read up to an end that a number says
pub seen_to : (end : Option MappedEnd) (own : MappedEnd) (xs bytes : List ℕ) → own ≡ end_or_none end → xs ≡ in_memory (Some own) bytes
    → (own ≡ no_end → xs ≡ bytes) → xs ≡ in_memory end bytes
seen_to None own xs bytes is value whole = whole is
seen_to (Some e) own xs bytes is value whole = value ∙ ap (λ (o : MappedEnd). in_memory (Some o) bytes) is

pub stored_to : (end : Option MappedEnd) (own : MappedEnd) (xs bytes : List ℕ) → own ≡ end_or_none end → xs ≡ in_memory (Some (stored own)) bytes
    → (own ≡ no_end → xs ≡ bytes) → xs ≡ in_memory (option_map stored end) bytes
stored_to None own xs bytes is value whole = whole is
stored_to (Some e) own xs bytes is value whole = value ∙ ap (λ (o : MappedEnd). in_memory (Some (stored o)) bytes) is

pub all_seen : (end : Option MappedEnd) (bytes : List ℕ) → end ≡ None → bytes ≡ in_memory end bytes
all_seen None bytes is = refl
all_seen (Some e) bytes is = absurd cc

pub all_stored : (end : Option MappedEnd) (bytes : List ℕ) → end ≡ None → bytes ≡ in_memory (option_map stored end) bytes
all_stored None bytes is = refl
all_stored (Some e) bytes is = absurd cc

pub ruleset seen = (seen_to, stored_to, all_seen, all_stored)

-- where an address has no offset, no read at it ends
all-unmapped : (view : View) (end_of : ℕ → Option MappedEnd) (rva : ℕ) → end_of rva ≡ None → all_ends_in view end_of rva ≡ None
all-unmapped Sections end_of rva none = refl
all-unmapped LoadedSections end_of rva none = none
all-unmapped Loader end_of rva none = none

ends-none : (view : View) → ends_in view None ≡ None
ends-none Sections = refl
ends-none LoadedSections = refl
ends-none Loader = refl

ends-unmapped : (view : View) (offset : Option ℕ) (end : Option MappedEnd) → offset ≡ None → ends_in view (option_and_then (λ (p : ℕ). end) offset) ≡ None
ends-unmapped view None end none = ends-none view
ends-unmapped view (Some p) end none = absurd cc

end-unmapped : (opts : ParseOptions) (w : Windows) (rva : ℕ) → offset_by_windows opts w rva ≡ None → end_by_windows opts w rva ≡ None
end-unmapped opts (Walked records view alignment) rva none = all-unmapped view _ rva (ends-unmapped view _ _ none)
end-unmapped opts (Indexed index) rva none = refl

by_place : (offset : Option ℕ) (end : Option MappedEnd) → (offset ≡ None → end ≡ None) → IsEndOf (option_map (λ (p : ℕ). record { offset = p; end = end_or_none end }) offset) end
by_place None end none = none refl
by_place (Some p) end none = refl

offset_by_place : (offset : Option ℕ) (end : MappedEnd) → option_map (λ (p : Place). p.offset) (option_map (λ (p : ℕ). record { offset = p; end = end }) offset) ≡ offset
offset_by_place None end = refl
offset_by_place (Some p) end = refl

-- a place has the offset and the end of its address
pub placed_end : (map : AddressMap) (rva : ℕ) → IsEndOf (place_of (map_of map) rva) ((map_of map).addressing.end rva)
placed_end map rva = by_place _ _ (end-unmapped map.opts map.windows rva)

pub placed_offset : (map : AddressMap) (rva : ℕ) → option_map (λ (p : Place). p.offset) (place_of (map_of map) rva) ≡ offset_of (map_of map) rva
placed_offset map rva = offset_by_place _ _

pub ruleset places = (placed_end, placed_offset)

-- the same by sections
found_end : (view : View) (resolves even : Bool) (rva : ℕ) (found : Option Section) (offset_of : Section → ℕ) (end_of : Section → MappedEnd)
    → cond resolves (cond even (option_map offset_of found) None) (Some rva) ≡ None → ends_in view (cond resolves (option_map end_of (cond even found None)) None) ≡ None
found_end view true true rva None offset_of end_of none = ends-none view
found_end view true true rva (Some s) offset_of end_of none = absurd cc
found_end view true false rva found offset_of end_of none = ends-none view
found_end view false even rva found offset_of end_of none = absurd cc

pub section_end : (mapping : Mapping) (sections : List Section) (alignment rva : ℕ) → IsEndOf (file_place mapping sections alignment rva) (file_end mapping sections alignment rva)
unfolding file_offset window_bytes_end
section_end mapping sections alignment rva =
    by_place _ _
    (found_end mapping.view mapping.resolve_rva (is_power_of_two alignment) rva (find (is_in_window mapping.view alignment rva) sections) (λ s. offset_in mapping s rva) (mapped_end mapping alignment))

pub section_offset : (mapping : Mapping) (sections : List Section) (alignment rva : ℕ) → option_map (λ (p : Place). p.offset) (file_place mapping sections alignment rva) ≡ file_offset mapping sections alignment rva
section_offset mapping sections alignment rva = offset_by_place _ _

pub ruleset places_of_sections = (section_end, section_offset)
