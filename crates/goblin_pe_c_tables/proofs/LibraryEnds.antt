-- The imports of a library, from the cursor of its row on.
use Rattle.std.proofs.Common.{◌≡◌, ◌∙◌, ℕ, Bool, true, false, ◌+◌, ◌&&◌, not, List, [], Option, None, Some, IsSome, ap, append-nil, arith, refl, sym, unwrap_or}
use Rattle.goblin_base.specs.Tables.{Format}
use Rattle.readings.specs.{Reads.in_its_place, Walks.refusal_of, Walks.until_refused}
use Rattle.goblin_pe_sect.specs.AddressReadings.{name_at}
use Rattle.goblin_pe_sect.specs.Addresses.{MapOfAddresses, reads_strictly}
use Rattle.goblin_pe_import.specs.ImportEntries.{EntryValue}
use Rattle.goblin_pe_import.specs.ImportRecords.{address_table_rva}
use Rattle.goblin_pe_import.specs.Imports.{NumberedImport}
use Rattle.goblin_pe_import.specs.added.ImportWalks.{imports_next, is_skipped, library_items, record_counts, library_name, pending_table}
use Rattle.goblin_pe_import.specs.KeptEntries.{entries_from}
use Rattle.goblin_pe_import.specs.added.Libraries.{LibraryValue, inside_library, library_at, row_counts}
use Rattle.goblin_pe_import.specs.declared.import.directory_entry.ImportDirectoryEntry.{ImportDirectoryEntry}
use Rattle.goblin_pe_import.specs.declared.added.imports.ImportCursor.{ImportCursor}
use Rattle.goblin_pe_import.specs.Passed.{Count}
use Rattle.goblin_pe.specs.{added.Layouts.file_cursor_left, added.Layouts.file_cursor_passes, Whole.TablePlaces, Whole.entry_format}
use Rattle.goblin_pe_c_tables.specs.Libraries.{LibrariesEnd, LibrariesSum}
use Rattle.goblin_pe_c_tables.proofs.ImportBatches.{cursor-from_for}

-- a name that is needed, and there
named : (strict : Bool) (v : Option (List ℕ)) → IsSome (in_its_place strict [] v) → in_its_place strict [] v ≡ Some (unwrap_or v [])
named strict (Some name) there = refl
named true None there = absurd cc
named false None there = refl

-- what permissive mode leaves out
out-same : (strict none : Bool) → (none && not strict) ≡ (not strict && none)
out-same true true = refl
out-same true false = refl
out-same false true = refl
out-same false false = refl

module _ (m : MapOfAddresses) (places : TablePlaces) (bytes : List ℕ) (first p : ℕ) (tested : Option ℕ) (r : ImportDirectoryEntry) where
  abbrev strict : Bool
  strict = reads_strictly m

  abbrev format : Format EntryValue
  format = entry_format places.magic

  abbrev library : LibraryValue
  library = library_at format m.addressing bytes first p tested r

  abbrev items : List (Option NumberedImport)
  items = library_items strict format m.addressing bytes tested library.index r

  out-is : (library.is_left_out && not strict) ≡ is_skipped strict format m.addressing bytes tested r
  out-is = out-same strict library.is_left_out

  -- what a row and a walk from its cursor count
  by-sum : (k : Count) (out : Bool) → (library.is_left_out && not strict) ≡ out
      → record_counts strict format m.addressing bytes k tested r
      ≡ row_counts m format bytes k tested r + file_cursor_passes m places.magic bytes (inside_library strict m.addressing library) k
  unfolding record_counts
  by-sum k true out = rw (out, sym out-is ∙ out) (omega arith)
  by-sum k false out = rw (out, sym out-is ∙ out) (omega arith)

  by-out : (out : Bool) → (library.is_left_out && not strict) ≡ out → IsSome ((library_name strict m.addressing r).value bytes)
      → file_cursor_left m places.magic bytes (inside_library strict m.addressing library) ≡ until_refused items
  unfolding entries_from imports_next library_items
  by-out true out there = rw (out, sym out-is ∙ out) refl
  by-out false out there =
      let name = named strict ((name_at m.addressing r.name_rva).value bytes) there in
      let addresses = pending_table strict format m.addressing None (Some (address_table_rva r)) in
      rw (out, sym out-is ∙ out, name, append-nil (refusal_of (addresses.value bytes))) refl

pub libraries_end : LibrariesEnd
unfolding LibrariesEnd
libraries_end m places bytes first p tested r there =
    let c = inside_library (reads_strictly m) m.addressing (library m places bytes first p tested r) in
    ap (λ (at : ImportCursor). Some (file_cursor_left m places.magic bytes at)) (cursor-from_for c)
    ∙ ap (λ (items : List (Option NumberedImport)). Some items) (by-out m places bytes first p tested r _ refl there)

pub libraries_sum : LibrariesSum
unfolding LibrariesSum
libraries_sum m places bytes k first p tested r =
    let c = inside_library (reads_strictly m) m.addressing (library m places bytes first p tested r) in
    by-sum m places bytes first p tested r k _ refl
    ∙ ap (λ (at : ImportCursor). row_counts m (entry_format places.magic) bytes k tested r + file_cursor_passes m places.magic bytes at k)
    (sym (cursor-from_for c))
