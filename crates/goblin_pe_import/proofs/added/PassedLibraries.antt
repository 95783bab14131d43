-- What a walk over imports passes over, library by library.
use Rattle.std.proofs.Common.{◌≡◌, ◌+◌, ℕ, if◌then◌else◌, ◌&&◌, not, is_some, true, false, List, Option, Some, None, refl, ap, arith, lit≤, Bool}
use Rattle.goblin_base.specs.{Bytes.slice_at, Tables.Format, Tables.ends_table}
use Rattle.goblin_base.proofs.SlotTables.{reads}
use Rattle.goblin_pe_sect.specs.Addresses.{Addressing, MapOfAddresses, map_of, reads_strictly}
use Rattle.goblin_pe_import.specs.ImportEntries.{EntryValue}
use Rattle.goblin_pe_import.specs.ImportRecords.{import_slots, is_last_record, lookup_offset, ImportDirectoryEntry}
use Rattle.goblin_pe_import.specs.Passed.{Count, HasRisen, Passed, as_skipped, count_of, entries_ahead, risen, table_counts}
use Rattle.goblin_pe_import.specs.Passed.Count.{Skipped, Unmapped}
use Rattle.goblin_pe_import.specs.added.ImportWalks.{is_skipped, lacks_table, no_imports, record_counts, records_ahead, walk_passes, Walk}
use Rattle.std.specs.Int.{from_bool}
use Rattle.goblin_pe_import.specs.added.Libraries.{row_counts}
use Rattle.goblin_pe_import.proofs.PassedSlots.{counts-end, counts-next, risen-by, risen-same, risen-start, risen-then}
use Rattle.goblin_pe_import.proofs.added.TestedPieces.{in_permissive, in_strict, resumed-end, resumed-first}
use Rattle.goblin_pe_import.specs.added.TestedTables.{counts_resumed, in_next}

-- nothing more is passed over by a walk that has ended
pub ended-passes : (format : Format EntryValue) (t : Walk) → t.at ≡ no_imports → (k : Count)
    → walk_passes format t k ≡ 0
ended-passes format t ended k = rw ended refl

-- what is ahead beside it stays ahead
pub risen-beside : (old new before after rest : ℕ) → HasRisen old new before after
    → HasRisen old new (before + rest) (after + rest)
risen-beside old new before after rest h = (omega (arith, h.0), omega (arith, h.0, h.1))

-- ---- the descriptors of a directory, by how much each counts

module _ (counts : Count → Option ℕ → ImportDirectoryEntry → ℕ) (bytes : List ℕ) (p : ℕ) where
  abbrev pub from : Count → Option ℕ → Option ℕ → ℕ
  from k = counts_resumed import_slots (counts k) k bytes

  abbrev whole : Count → ℕ → ℕ
  whole k = table_counts import_slots (counts k None) k bytes

  -- the directory ends here
  pub counted-end : (tested : Option ℕ) (end : Option ImportDirectoryEntry)
      → reads import_slots bytes p ≡ end → ends_table is_last_record end ≡ true → (now new : Passed)
      → new.skipped ≡ risen now.skipped (from_bool (not (is_some (slice_at bytes p 20))))
      → new.unmapped ≡ now.unmapped → (k : Count)
      → HasRisen (count_of k now) (count_of k new) (from k (Some p) tested) 0
  counted-end tested end r z now new skipped unmapped k =
      counts-end import_slots (counts k None) k bytes p (lit≤ tt) (rw r z) now new skipped unmapped
      (count_of k now) (from k (Some p) tested)
      (risen-same (count_of k now) (count_of k now) (from k (Some p) tested) (from k (Some p) tested)
      (whole k p) (risen-start (count_of k now) (from k (Some p) tested))
      (resumed-end import_slots (whole k) (counts k) bytes p tested end r z))

  module _ (v : ImportDirectoryEntry) (r : reads import_slots bytes p ≡ Some v)
      (going : is_last_record v ≡ false) where
    pub counted-first : (k : Count) (tested : Option ℕ)
        → from k (Some p) tested ≡ counts k tested v + from k (Some (p + 20)) None
    counted-first k tested =
        resumed-first import_slots (whole k) (counts k) bytes p tested v r going
        (counts-next import_slots (counts k None) k bytes p (lit≤ tt) v r going)

    -- a piece was tested of its address table
    pub counted-piece : (tested : Option ℕ) (place : ℕ) (k : Count)
        → counts k tested v ≡ counts k (Some place) v → (old : ℕ)
        → HasRisen old old (from k (Some p) tested) (from k (Some p) (Some place))
    counted-piece tested place k same old =
        risen-same old old (from k (Some p) tested) (from k (Some p) tested) _
        (risen-start old (from k (Some p) tested))
        (omega (arith, counted-first k tested, counted-first k (Some place), same))

module _ (strict : Bool) (format : Format EntryValue) (addressing : Addressing) (bytes : List ℕ) where
  abbrev entries : Count → Option ℕ → ℕ
  entries = entries_ahead strict format addressing bytes

  abbrev records : Count → Option ℕ → Option ℕ → ℕ
  records k = records_ahead strict format addressing bytes k

  -- the directory ends here
  pub records-end : (p : ℕ) (tested : Option ℕ) (end : Option ImportDirectoryEntry)
      → reads import_slots bytes p ≡ end → ends_table is_last_record end ≡ true → (now new : Passed)
      → new.skipped ≡ risen now.skipped (from_bool (not (is_some (slice_at bytes p 20))))
      → new.unmapped ≡ now.unmapped → (k : Count)
      → HasRisen (count_of k now) (count_of k new) (records k (Some p) tested) 0
  records-end p tested = counted-end (record_counts strict format addressing bytes) bytes p tested

  module _ (p : ℕ) (tested : Option ℕ) (v : ImportDirectoryEntry)
      (r : reads import_slots bytes p ≡ Some v) (going : is_last_record v ≡ false) where
    first : (k : Count) (tested : Option ℕ)
        → records k (Some p) tested
        ≡ record_counts strict format addressing bytes k tested v + records k (Some (p + 20)) None
    first k tested = counted-first (record_counts strict format addressing bytes) bytes p v r going k tested

    -- a piece was tested of its address table, before its library's entries
    pub records-piece : (place : ℕ) → strict ≡ false
        → is_skipped strict format addressing bytes tested v
        ≡ is_skipped strict format addressing bytes (Some place) v
        → (old : ℕ) (k : Count)
        → HasRisen old old (records k (Some p) tested)
        (entries k None + records k (Some p) (in_next strict (Some place)))
    unfolding record_counts
    records-piece place permissive same old k =
        rw (in_permissive strict (Some place) permissive)
        (risen-same old old (records k (Some p) tested) (records k (Some p) tested) _
        (risen-start old (records k (Some p) tested))
        (omega (arith, first k tested, first k (Some place), counts)))
      where
        counts : record_counts strict format addressing bytes k tested v
            ≡ record_counts strict format addressing bytes k (Some place) v
        counts = rw same refl

    -- its library is skipped
    pub records-skip : is_skipped strict format addressing bytes tested v ≡ true → (now new : Passed)
        → new.skipped ≡ risen now.skipped 1 → new.unmapped ≡ now.unmapped → (k : Count)
        → HasRisen (count_of k now) (count_of k new) (records k (Some p) tested)
        (entries k None + records k (Some (p + 20)) None)
    unfolding record_counts
    records-skip out now new skipped unmapped k =
        risen-by (count_of k now) (count_of k now) (count_of k new) (records k (Some p) tested) (records k (Some p) tested)
        (as_skipped k) (entries k None + records k (Some (p + 20)) None)
        (risen-start (count_of k now) (records k (Some p) tested))
        (omega (arith, first k tested, counts k)) (more k)
      where
        counts : (k : Count) → record_counts strict format addressing bytes k tested v ≡ as_skipped k
        counts k = rw out refl

        more : (k : Count) → count_of k new ≡ risen (count_of k now) (as_skipped k)
        more Skipped = skipped
        more Unmapped = omega (arith, unmapped)

    -- it is walked over
    pub records-enter : is_skipped strict format addressing bytes tested v ≡ false → (old : ℕ) (k : Count)
        → HasRisen old old (records k (Some p) tested)
        (entries k (lookup_offset addressing v) + records k (Some (p + 20)) None)
    unfolding record_counts
    records-enter kept old k =
        risen-same old old (records k (Some p) tested) (records k (Some p) tested) _ (risen-start old (records k (Some p) tested))
        (omega (arith, first k tested, counts))
      where
        counts : record_counts strict format addressing bytes k tested v ≡ entries k (lookup_offset addressing v)
        counts = rw kept refl

-- ---- a walk over libraries

module _ (m : MapOfAddresses) (format : Format EntryValue) (bytes : List ℕ) (p : ℕ)
    (v : ImportDirectoryEntry) (r : reads import_slots bytes p ≡ Some v) (going : is_last_record v ≡ false)
    (tested : Option ℕ) where
  abbrev counts : Count → Option ℕ → ImportDirectoryEntry → ℕ
  counts = row_counts m format bytes

  -- a piece was tested of its library's address table
  pub rows-piece : (place : ℕ)
      → lacks_table format m.addressing bytes tested v ≡ lacks_table format m.addressing bytes (Some place) v
      → (old : ℕ) (k : Count)
      → HasRisen old old (from counts bytes p k (Some p) tested) (from counts bytes p k (Some p) (Some place))
  rows-piece place same old k =
      counted-piece counts bytes p v r going tested place k
      (ap (λ (out : Bool). if not (reads_strictly m) && out then as_skipped k else 0) same) old

  -- a row counts if its library is skipped
  pub rows-more : (skipped : Bool) → skipped ≡ is_skipped (reads_strictly m) format m.addressing bytes tested v
      → (now new : Passed) → new.skipped ≡ risen now.skipped (from_bool skipped) → new.unmapped ≡ now.unmapped
      → (k : Count)
      → HasRisen (count_of k now) (count_of k new) (from counts bytes p k (Some p) tested)
      (from counts bytes p k (Some (p + 20)) None)
  rows-more skipped is now new counted same k =
      let ahead = from counts bytes p k (Some p) tested in
      risen-by (count_of k now) (count_of k now) (count_of k new) ahead ahead
      (if skipped then as_skipped k else 0) (from counts bytes p k (Some (p + 20)) None)
      (risen-start (count_of k now) ahead)
      (rw is (counted-first counts bytes p v r going k tested)) (more k skipped counted)
    where
      more : (k : Count) (skipped : Bool) → new.skipped ≡ risen now.skipped (from_bool skipped)
          → count_of k new ≡ risen (count_of k now) (if skipped then as_skipped k else 0)
      more Skipped true counted = counted
      more Skipped false counted = counted
      more Unmapped true counted = omega (arith, same)
      more Unmapped false counted = omega (arith, same)

-- ---- a walk

module _ (format : Format EntryValue) (start s : Walk)
    (h : (k : Count) → HasRisen (count_of k start.passed) (count_of k s.passed) (walk_passes format start k) (walk_passes format s k))
    (k : Count) where
  abbrev strict : Bool
  strict = reads_strictly (map_of s.finder)

  abbrev places : Addressing
  places = (map_of s.finder).addressing

  abbrev slots : Option ℕ → ℕ
  slots = entries_ahead strict format places s.bytes.now k

  abbrev later : ℕ
  later =
      records_ahead strict format places s.bytes.now k s.at.next_record (in_next strict s.at.tested)

  -- entries of the library were passed over
  pub passes-kept : (place : Option ℕ) (passed : ℕ)
      → HasRisen (count_of k s.passed) passed (slots s.at.place) (slots place)
      → HasRisen (count_of k start.passed) passed (walk_passes format start k) (slots place + later)
  passes-kept place passed more =
      risen-then (count_of k start.passed) (count_of k s.passed) passed (walk_passes format start k)
      (slots s.at.place + later) (slots place + later) (h k)
      (risen-beside (count_of k s.passed) passed (slots s.at.place) (slots place) later more)

  -- it has no other entries, and what comes next is another library, or nothing
  pub passes-library : (place : Option ℕ) (passed new after : ℕ)
      → HasRisen (count_of k s.passed) passed (slots s.at.place) (slots place) → place ≡ None
      → HasRisen passed new later after
      → HasRisen (count_of k start.passed) new (walk_passes format start k) after
  passes-library place passed new after more none rest =
      let here : slots place ≡ 0 = ap slots none in
      risen-then (count_of k start.passed) passed new (walk_passes format start k) later after
      (risen-same (count_of k start.passed) passed (walk_passes format start k) (slots place + later) later
      (passes-kept place passed more) (omega (arith, here)))
      rest
