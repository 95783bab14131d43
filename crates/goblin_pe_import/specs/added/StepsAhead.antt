-- What a walk over imports looks at, in steps: slots and import descriptors, whether or not they
-- give something.
use Rattle.std.specs.Prelude.{◌≡◌, ◌⊎◌, ◌<◌, ℕ, ◌+◌, Bool, if◌then◌else◌, List, ⊤}
use Rattle.std.specs.Prelude.{true, false, suc, option_map, IsSomeAnd}
use Rattle.std.specs.Prelude.{Option, Some, None, Result, Ok, Err, IfErr, IfSome}
use Rattle.goblin_base.specs.{declared.error.ErrorOf.ErrorOf, Tables.Format}
use Rattle.goblin_pe_sect.specs.Addresses.{MapOfAddresses, map_of, reads_strictly, Addressing}
use Rattle.goblin_pe_import.specs.ImportEntries.{EntryValue}
use Rattle.goblin_pe_import.specs.ImportRecords.{address_table_rva, import_slots, lookup_offset}
use Rattle.goblin_pe_import.specs.added.ImportWalks.{is_skipped, no_imports, walked_value, HasName}
use Rattle.goblin_pe_import.specs.added.ImportWalks.{IsImportsCause, IsWalkFault, AreImportsOver}
use Rattle.goblin_pe_import.specs.added.ImportWalks.{cursor_of, imports_bytes, imports_bound}
use Rattle.goblin_pe_import.specs.added.ImportWalks.{imports_left, imports_map, ImportCursor}
use Rattle.goblin_pe_import.specs.added.ImportWalks.{Imports, Walk, WalkedImport}
use Rattle.goblin_pe_import.specs.added.ImportWalks.{CountsPassed, pending_table}
use Rattle.goblin_pe_import.specs.TableSums.{amount_of}
use Rattle.goblin_pe_import.specs.ImportRecords.{ImportDirectoryEntry}
use Rattle.goblin_pe_import.specs.Steps.{slots_ahead, HasNotGrown, GivesWithin}
use Rattle.goblin_pe_import.specs.Steps.{IsOut, LooksAt}
use Rattle.goblin_pe_import.specs.added.TestedTables.{in_next, pieces, sum_resumed, tested_slots}
use Rattle.goblin_pe_import.specs.added.TestedTables.{TestsPiece, tested_table}

-- ---- what is ahead

module _ (strict : Bool) (format : Format EntryValue) (addressing : Addressing)
    (bytes : List ℕ) where
  -- in how many pieces an address table is tested
  abbrev pub pieces_ahead : Option ℕ → ℕ → ℕ
  pieces_ahead tested rva = pieces (tested_slots format addressing bytes tested rva)

  -- the same of one that is tested after its library's entries, as in strict mode
  abbrev pub pending_ahead : Option ℕ → Option ℕ → ℕ
  pending_ahead tested pending =
      if strict then amount_of (pieces_ahead tested) pending else 0

  -- A descriptor is one step in strict mode. In permissive mode each piece of its library's address
  -- table is one, and the descriptor is looked at with the last. If the library is not skipped, the
  -- slots of its lookup table come next, and in strict mode the pieces of its address table.
  unfoldable pub record_steps : Option ℕ → ImportDirectoryEntry → ℕ
  record_steps tested r =
      (if strict then 1 else pieces_ahead tested (address_table_rva r))
      + (if is_skipped strict format addressing bytes tested r then 0
      else slots_ahead format bytes (lookup_offset addressing r)
      + pending_ahead None (Some (address_table_rva r)))

  -- How many steps are ahead once the entries of a library have come. At last come those of the
  -- directory's descriptors, from the next one on.
  abbrev pub later_ahead : Option ℕ → Option ℕ → Option ℕ → ℕ
  later_ahead tested pending next =
      pending_ahead tested pending
      + sum_resumed import_slots record_steps bytes next (in_next strict tested)

-- How many steps a walk takes from a cursor to its end.
abbrev pub cursor_ahead : MapOfAddresses → Format EntryValue → List ℕ → ImportCursor → ℕ
cursor_ahead m format bytes c =
    slots_ahead format bytes c.place
    + later_ahead (reads_strictly m) format m.addressing bytes c.tested c.pending c.next_record

abbrev pub walk_ahead : Format EntryValue → Walk → ℕ
walk_ahead format w = cursor_ahead (map_of w.finder) format w.bytes.now w.at

abbrev pub imports_ahead : {T : Type 0} → Format EntryValue → Imports T → ℕ
imports_ahead format it = walk_ahead format it.walk

-- A call tests a piece of an address table after its library's entries, or nothing.
abbrev pub TestsPending : Bool → Format EntryValue → Addressing → List ℕ → Option ℕ → Option ℕ
    → Option (Result (Option ℕ) ErrorOf) → Type 0
TestsPending strict format addressing bytes tested pending None =
    (option_map (λ _. tt {0}) ((pending_table strict format addressing tested pending).value bytes)
    ≡ Some (tt {0}))
    × (pending_ahead strict format addressing bytes tested pending ≡ 0)
TestsPending strict format addressing bytes tested pending (Some r) =
    (strict ≡ true)
    × IsSomeAnd pending (λ rva. TestsPiece format bytes (tested_table format addressing tested rva)
    (tested_slots format addressing bytes tested rva) r)

-- A call tests a piece of a descriptor's address table before its library's entries. Then the walk
-- enters the library, goes on in that table, or skips the library.
abbrev pub TestsFirst : Bool → Format EntryValue → Addressing → List ℕ → Option ℕ
    → ImportDirectoryEntry → Result (Option ℕ) ErrorOf → Type 0
TestsFirst strict format addressing bytes tested r (Ok None) =
    (is_skipped strict format addressing bytes (in_next strict tested) r ≡ false)
    × ((if strict then 1 else pieces_ahead strict format addressing bytes (in_next strict tested)
    (address_table_rva r)) ≡ 1)
TestsFirst strict format addressing bytes tested r (Ok (Some place)) =
    (strict ≡ false)
    × (is_skipped strict format addressing bytes (in_next strict tested) r
    ≡ is_skipped strict format addressing bytes (Some place) r)
    × (pieces_ahead strict format addressing bytes (in_next strict tested) (address_table_rva r)
    ≡ suc (pieces_ahead strict format addressing bytes (Some place) (address_table_rva r)))
TestsFirst strict format addressing bytes tested r (Err e) =
    (strict ≡ false) × (is_skipped strict format addressing bytes (in_next strict tested) r ≡ true)
    × (pieces_ahead strict format addressing bytes (in_next strict tested) (address_table_rva r)
    ≡ 1)

-- ---- a call with a budget of steps

-- A call that gives nothing has reached the end, or its budget is spent.
abbrev pub EndsWithin : {X : Type 0} → Option (Result X ErrorOf) → ImportCursor → Type 0 → Type 0
EndsWithin None c RunOut = (c ≡ no_imports) ⊎ RunOut
EndsWithin (Some (Ok x)) c RunOut = ⊤
EndsWithin (Some (Err e)) c RunOut = c ≡ no_imports

-- A call of `next_within` of a walk over imports, which keeps the bytes and the map.
pub record GivesImportWithin {T : Type 0} (format : Format EntryValue) (s : Imports T)
    (old : Option ℕ) (result : Option (Result WalkedImport ErrorOf)) (t : Imports T)
    (new : Option ℕ) : Type 0 where
  pub steps : GivesWithin walked_value (imports_left format) (IsImportsCause format) s result t
  pub named : HasName s → HasName t
  pub fault : IfSome result (λ r. IfErr r (IsWalkFault s.walk))
  pub over : AreImportsOver (imports_bytes s) (imports_map s) t
  pub passed : CountsPassed format s.walk result t.walk
  pub spent : HasNotGrown old new
  pub looked : LooksAt result old new (imports_ahead format s) (imports_ahead format t)
  pub ended : EndsWithin result (cursor_of t) (IsOut new)
  pub fewer : IfSome result (λ r. imports_bound t < imports_bound s)
