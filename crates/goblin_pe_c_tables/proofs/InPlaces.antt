-- What is read of a file by the places that a caller says.
use Rattle.std.proofs.Common.{◌≡◌, ℕ, List, Some, subst, IsSomeAnd}
use Rattle.goblin_base.specs.{declared.error.ErrorOf.ErrorOf, Answers.FirstFault, Reading.IsRefused}
use Rattle.goblin_pe_sect.specs.{SectionTable.Section, Addresses.MapOfAddresses}
use Rattle.goblin_pe.specs.{declared.added.layout.Layout.Layout, Whole.TablePlaces}
use Rattle.goblin_pe.specs.added.Layouts.{layout_bytes, layout_map, layout_places, layout_sections}
use Rattle.goblin_pe_c_headers.specs.declared.options.PeOptions.{PeOptions}
use Rattle.goblin_pe_c_headers.specs.{declared.places.PePlaces.PePlaces, Places.placed_sections}
use Rattle.goblin_pe_c_tables.specs.Places.{map_at, places_from_c}

-- The layout by these places.
pub record IsAt (o : PeOptions) (p : PePlaces) (bytes : List ℕ) (l : Layout) : Type 0 where
  pub read : (placed_sections p).value bytes ≡ Some (layout_sections l)
  pub over : layout_bytes l ≡ bytes
  pub placed : layout_places l ≡ places_from_c p
  pub mapped : layout_map l ≡ map_at o p (layout_sections l)

module _ (o : PeOptions) (p : PePlaces) (bytes : List ℕ) (l : Layout) (at : IsAt o p bytes l)
    (P : MapOfAddresses → TablePlaces → List ℕ → Type 0) where
  -- what holds of it holds of what the places say
  pub holds-at : P (layout_map l) (layout_places l) (layout_bytes l)
      → P (map_at o p (layout_sections l)) (places_from_c p) bytes
  holds-at holds =
      subst (λ (m : MapOfAddresses). P m (places_from_c p) bytes) at.mapped
      (subst (λ (places : TablePlaces). P (layout_map l) places bytes) at.placed
      (subst (λ (b : List ℕ). P (layout_map l) (layout_places l) b) at.over holds))

  -- so it is given
  pub given-at : P (layout_map l) (layout_places l) (layout_bytes l)
      → IsSomeAnd ((placed_sections p).value bytes) (λ s. P (map_at o p s) (places_from_c p) bytes)
  given-at holds = rw at.read (holds-at holds)

-- and so is a fault
pub fault-at : (o : PeOptions) (p : PePlaces) (bytes : List ℕ) (l : Layout) → IsAt o p bytes l
    → (IsFault : MapOfAddresses → TablePlaces → List ℕ → ErrorOf → Type 0) (e : ErrorOf)
    → IsFault (layout_map l) (layout_places l) (layout_bytes l) e
    → FirstFault ((placed_sections p).value bytes) ((placed_sections p).IsCause bytes)
    (λ s. IsFault (map_at o p s) (places_from_c p) bytes) e
fault-at o p bytes l at IsFault e fault =
    rw at.read (holds-at o p bytes l at (λ m places b. IsFault m places b e) fault)

-- where the records of the sections are not there, nothing is read
pub nothing-at : (p : PePlaces) (bytes : List ℕ)
    (IsFault : List Section → ErrorOf → Type 0) (e : ErrorOf)
    → IsRefused (placed_sections p) bytes e
    → FirstFault ((placed_sections p).value bytes) ((placed_sections p).IsCause bytes) IsFault e
nothing-at p bytes IsFault e refused = rw refused.0 refused.1
