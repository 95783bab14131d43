-- What the sections' windows map.
use Rattle.std.proofs.Common.{◌≡◌, ℕ, Bool, true, false, cond, List, [], ◌∷◌, length, Option, None, Some, refl, ap, ◌∙◌, arith}
use Rattle.std.proofs.Math.Path.{fun_ext}
use Rattle.std.specs.Int.{is_power_of_two}
use Rattle.goblin_pe_sect.specs.{Mapping.file_offset, declared.options.Mapping.Mapping}
use Rattle.goblin_pe_sect.specs.declared.options.ParseOptions.{ParseOptions}
use Rattle.goblin_pe_sect.specs.declared.options.{View.View, View.TheVariants.Sections}
use Rattle.goblin_pe_sect.specs.declared.address_map.records.MappedRecords.{MappedRecords}
use Rattle.goblin_pe_sect.specs.SectionTable.{Section, mapped_of, mapped_sections}
use Rattle.goblin_pe_sect.specs.WindowIndex.{Pieces, located}
use Rattle.goblin_pe_sect.specs.Options.{mapping_by}
use Rattle.goblin_pe_sect.specs.Addresses.{map_by, map_in, map_to}

same_by : (resolves even : Bool) (rva : ℕ) → cond resolves None (Some rva) ≡ cond resolves (cond even None None) (Some rva)
same_by false even rva = refl
same_by true true rva = refl
same_by true false rva = refl

-- an index without pieces answers as no sections do
pub located_nowhere : (mapping : Mapping) (sections : List Section) (alignment rva : ℕ) → length sections ≡ 0 → located (record { resolves = mapping.resolve_rva; begins = []; owners = [] }) rva ≡ file_offset mapping sections alignment rva
unfolding located file_offset
located_nowhere mapping [] alignment rva none = same_by mapping.resolve_rva (is_power_of_two alignment) rva
located_nowhere mapping (s ∷ sections) alignment rva none = absurd (omega arith)

-- an index that maps each address as the sections do makes the map of addresses by them
pub same_map : (opts : ParseOptions) (sections : List Section) (alignment : ℕ) (index : Pieces) → ((rva : ℕ) → located index rva ≡ file_offset (mapping_by opts) sections alignment rva) → map_to opts (located index) (λ rva. None) ≡ map_by opts sections alignment
same_map opts sections alignment index mapped = ap (λ (f : ℕ → Option ℕ). map_to opts f (λ rva. None)) (fun_ext mapped)

-- also by section headers in goblin's view, without the file's front
pub same_map_alone : (opts : ParseOptions) (records : MappedRecords) (view : View) (alignment : ℕ) (index : Pieces) → view ≡ Sections → records.front ≡ None
    → ((rva : ℕ) → located index rva ≡ file_offset (mapping_by opts) (mapped_sections records) alignment rva)
    → map_to opts (located index) (λ rva. None) ≡ map_in opts (mapped_of view records) alignment
same_map_alone opts records view alignment index goblins none mapped =
    ap (λ (f : ℕ → Option ℕ). map_to opts f (λ rva. None)) (fun_ext mapped) ∙ rw (goblins, none) refl
