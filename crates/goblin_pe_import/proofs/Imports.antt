-- The loops that list imports: over the entries of a table, and over libraries.
use Rattle.std.proofs.Common.{◌≡◌, ◌<◌, ℕ, ◌+◌, Bool, true, not, List, [], ◌∷◌, ◌++◌, length, Option, Some, None, refl, sym, ap, subst, inl, ◌∙◌, append-nil, append_assoc, IsSomeAnd, map, get_or, slice_get, option_map}
use Rattle.std.specs.List.{position_or_len}
use Rattle.std.proofs.lemmas.Bool.{not-false, not-true}
use Rattle.std.proofs.lemmas.Option.{slice_get-get_or, slice_get-map, slice_get_within}
use Rattle.goblin_base.specs.declared.error.ErrorOf.TheVariants.{Malformed}
use Rattle.goblin_base.specs.{declared.error.CauseOf.TheVariants.SlotCount, Tables.each_below}
use Rattle.goblin_base.specs.{Tables.join, Answers.◌>>=◌, Answers.all_at}
use Rattle.goblin_base.proofs.Below.{each_below-missing, each_below-next}
use Rattle.goblin_base.proofs.Steps.{all_at-more, all_at-none, all_at-zero, unmapped}
use Rattle.goblin_base.proofs.First.{found_at_first, found_passes, none_passes}
use Rattle.goblin_pe_import.specs.{ImportLookup.LookupEntry, ImportRecords.ImportedLibrary}
use Rattle.goblin_pe_import.specs.Imports.{ImportValue, IsImportListFault, IsSlotCount, first_without_slots, has_slots, import_at, import_of, import_offset, imports_by, imports_of, kept_entries, library_imports}

-- over a table's entries and slots
module _ (size : ℕ) (dll : List ℕ) (rva : ℕ) (entries : List LookupEntry) (slots : List ℕ) where
  -- `now` is `old` with the imports of the entries before a position after it
  pub record AtEntry (position : ℕ) (old now : List ImportValue) : Type 0 where
    pub made : List ImportValue
    pub so_far : all_at (import_at size dll rva entries slots) position ≡ Some made
    pub after : now ≡ old ++ made

  -- one entry further
  pub entry-next : (position slot offset : ℕ) (entry : LookupEntry) (x : ImportValue) (old now : List ImportValue) → AtEntry position old now → slice_get entries position ≡ Some entry → slice_get slots position ≡ Some slot → Some offset ≡ import_offset rva size slot → Some (import_of dll slot offset size entry) ≡ Some x → AtEntry (position + 1) old (now ++ x ∷ [])
  entry-next position slot offset entry x old now h is in_slot fits same =
      let this : import_at size dll rva entries slots position ≡ Some x = rw (is, in_slot, ← fits) same in
      record {
        made = h.made ++ x ∷ [];
        so_far = all_at-more (import_at size dll rva entries slots) position h.made x h.so_far this;
        after = ap (λ ys. ys ++ x ∷ []) h.after ∙ append_assoc old h.made (x ∷ []);
      }

  no_offset : (slot : ℕ) (entry : Option LookupEntry) → import_offset rva size slot ≡ None → (entry >>= (λ e. import_offset rva size slot >>= (λ o. Some (import_of dll slot o size e)))) ≡ None
  no_offset slot None none = refl
  no_offset slot (Some e) none = rw none refl

  -- an entry whose slot has no offset
  pub entry-refused : (position slot : ℕ) (old : List ImportValue) → position < length entries → slice_get slots position ≡ Some slot → import_offset rva size slot ≡ None → option_map (λ made. old ++ made) (imports_by size dll rva entries slots) ≡ None
  unfolding imports_by
  entry-refused position slot old below in_slot none =
      let this : import_at size dll rva entries slots position ≡ None = rw in_slot (no_offset slot (slice_get entries position) none) in
      let all : all_at (import_at size dll rva entries slots) (length entries) ≡ None = all_at-none (import_at size dll rva entries slots) (length entries) position below this in
      rw all refl

  -- all entries
  pub entry-end : (position : ℕ) (old now : List ImportValue) → AtEntry position old now → position ≡ length entries → option_map (λ made. old ++ made) (imports_by size dll rva entries slots) ≡ Some now
  unfolding imports_by
  entry-end position old now h end =
      let all : all_at (import_at size dll rva entries slots) (length entries) ≡ Some h.made = ap (all_at (import_at size dll rva entries slots)) (sym end) ∙ h.so_far in
      rw all (ap Some (sym h.after))

pub entry-read : {A : Type 0} (view : A → LookupEntry) (entries : List A) (position : ℕ) (d : A) → position < length entries → slice_get (map view entries) position ≡ Some (view (get_or entries position d))
entry-read view entries position d below =
    slice_get-map view entries position ∙ ap (option_map view) (slice_get-get_or entries position d below)

pub slot-read : (slots : List ℕ) (position : ℕ) → position < length slots → slice_get slots position ≡ Some (get_or slots position 0)
slot-read slots position below = slice_get-get_or slots position 0 below

-- ---- the loop over libraries

-- what is imported from the library at an index
abbrev pub imported_at : ℕ → List ImportedLibrary → ℕ → Option (List ImportValue)
imported_at size libraries i = slice_get libraries i >>= library_imports size

appended : {A : Type 0} (old now : List A) (made : Option (List A)) → option_map (λ xs. old ++ xs) made ≡ Some now → join (Some old) made ≡ Some now
appended old now None h = absurd cc
appended old now (Some xs) h = h

-- one library further
pub library-next : (size : ℕ) (libraries : List ImportedLibrary) (i : ℕ) (library : ImportedLibrary) (old now : List ImportValue) → each_below (imported_at size libraries) i ≡ Some old → slice_get libraries i ≡ Some library → option_map (λ made. old ++ made) (library_imports size library) ≡ Some now → each_below (imported_at size libraries) (i + 1) ≡ Some now
library-next size libraries i library old now so_far is made =
    let this : imported_at size libraries i ≡ library_imports size library = rw is refl in
    rw (each_below-next (imported_at size libraries) i, so_far, this) (appended old now (library_imports size library) made)

-- a library that is refused
pub library-refused : (size : ℕ) (libraries : List ImportedLibrary) (i : ℕ) (library : ImportedLibrary) (old : List ImportValue) → slice_get libraries i ≡ Some library → option_map (λ made. old ++ made) (library_imports size library) ≡ None → imports_of size libraries ≡ None
unfolding imports_of
library-refused size libraries i library old is none =
    let this : imported_at size libraries i ≡ None = ap (λ l. l >>= library_imports size) is ∙ unmapped (λ made. old ++ made) (library_imports size library) none in
    each_below-missing (imported_at size libraries) (length libraries) i (slice_get_within libraries i library is) this

-- ---- slots

-- a library that has not as many entries as slots: there is no list
slots-missing : (size : ℕ) (libraries : List ImportedLibrary) (library : ImportedLibrary) → first_without_slots libraries ≡ Some library → imports_of size libraries ≡ None
unfolding imports_of
slots-missing size libraries library is =
    let test : ImportedLibrary → Bool = λ l. not (has_slots l) in
    let i = position_or_len test libraries in
    let here = found_at_first test libraries library is in
    let fails = not-true (has_slots library) (found_passes test libraries library is) in
    let this : imported_at size libraries i ≡ None = rw (here, fails) refl in
    each_below-missing (imported_at size libraries) (length libraries) i (slice_get_within libraries i library here) this

-- else each library has
pub slots-there : (libraries : List ImportedLibrary) (i : ℕ) (library : ImportedLibrary) → first_without_slots libraries ≡ None → slice_get libraries i ≡ Some library → has_slots library ≡ true
slots-there libraries i library none here = not-false (has_slots library) (none_passes (λ l. not (has_slots l)) libraries none i library here)

-- and that is a true cause
pub slots-refused : (size : ℕ) (libraries : List ImportedLibrary) (library : ImportedLibrary) (entries slots : ℕ) → first_without_slots libraries ≡ Some library → entries ≡ length (kept_entries library) → slots ≡ length library.import_lookup_slots
    → (imports_of size libraries ≡ None) × IsImportListFault libraries (Malformed (SlotCount entries slots))
slots-refused size libraries library entries slots is e s =
    (slots-missing size libraries library is, inl (subst (λ o. IsSomeAnd o (λ l. IsSlotCount l (Malformed (SlotCount entries slots)))) (sym is) (e, s)))
