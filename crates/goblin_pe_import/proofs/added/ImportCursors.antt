-- A walk at a cursor: what is still to come of it.
use Rattle.std.proofs.Common.{◌≡◌, ℕ, List, ◌++◌, Option, None, Some, ap, refl, ◌∙◌}
use Rattle.goblin_base.specs.Tables.{Format}
use Rattle.readings.specs.Walks.{until_refused}
use Rattle.goblin_pe_sect.specs.Addresses.{MapOfAddresses, map_of, reads_strictly}
use Rattle.goblin_pe_import.specs.{ImportEntries.EntryValue, Imports.NumberedImport}
use Rattle.goblin_pe_import.specs.KeptEntries.{entries_from}
use Rattle.goblin_pe_import.specs.added.ImportWalks.{IsNamed, IsNamedAt, IsWalkAt, cursor_left, cursor_of, imports_bytes, imports_left, imports_of_entries, cursor_dll, walk_left, ImportCursor, Imports, Walk}

module _ (format : Format EntryValue) (w : Walk) where
  -- the items of the library that the walk is in, by its name
  abbrev left_by : Option ℕ → List (Option NumberedImport) → List ℕ → List (Option NumberedImport)
  left_by place later dll =
      let m = map_of w.finder in
      until_refused
      (imports_of_entries (reads_strictly m) format m.addressing w.bytes.now
      w.at.library dll w.at.rva w.at.table_offset place ++ later)

  named-by : (place : Option ℕ) (later : List (Option NumberedImport)) (dll name : List ℕ)
      → IsNamedAt place dll name → left_by place later dll ≡ left_by place later name
  unfolding entries_from
  named-by None later dll name h = refl
  named-by (Some place) later dll name h = ap (left_by (Some place) later) h

  pub named-left : IsNamed w → walk_left format w ≡ cursor_left (map_of w.finder) format w.bytes.now w.at
  named-left h =
      named-by w.at.place _ w.dll.now (cursor_dll (map_of w.finder).addressing w.bytes.now w.at) h

-- the same of the walk at a cursor
pub cursor_left_of : {T : Type 0} (m : MapOfAddresses) (format : Format EntryValue) (bytes : List ℕ)
    (c : ImportCursor) (it : Imports T) → IsWalkAt m bytes c it
    → imports_left format it ≡ cursor_left m format bytes c
cursor_left_of m format bytes c it h =
    named-left format it.walk h.named
    ∙ ap (λ (k : MapOfAddresses). cursor_left k format (imports_bytes it) (cursor_of it)) h.over.1
    ∙ ap (λ (b : List ℕ). cursor_left m format b (cursor_of it)) h.over.0
    ∙ ap (cursor_left m format bytes) h.at
