-- The walk over all imports: from one library to the next.
use Rattle.std.proofs.Common.{◌≡◌, ◌≤◌, ◌+◌, ◌-◌, ◌*◌, ℕ, Bool, true, false, not, ◌&&◌, List, [], ◌∷◌, ◌++◌, length, IsSomeAnd, Option, Some, None, refl, sym, ap, subst, ◌∙◌, append_assoc, lit≤, arith, option_map, unwrap_or, mul-le-mul_left, is_some, if◌then◌else◌}
use Rattle.std.specs.Option.{option_len}
use Rattle.goblin_base.specs.{declared.error.ErrorOf.ErrorOf, Answers.FirstFault, Answers.all_of}
use Rattle.goblin_base.specs.{Reading.Reading, Tables.Format, Tables.ends_table, Tables.or_left_out}
use Rattle.goblin_base.proofs.{SlotTables.reads, Steps.unmapped}
use Rattle.readings.specs.Reads.{pair_of}
use Rattle.readings.specs.Walks.{from_slot, refusal_of, table_walk, until_refused}
use Rattle.readings.proofs.Walks.{cause-slot, slot-end, slot-going, slot-missing, until_refused-later, walk-slot}
use Rattle.goblin_pe_import.specs.ImportRecords.{ImportDirectoryEntry, address_table_rva, import_slots, is_last_record, lookup_offset}
use Rattle.goblin_pe_import.specs.added.ImportWalks.{ImportCursor, IsCursorCause, Walk, items_left, IsLaterCause, IsLaterLeftCause, later_left, IsNamedCause, IsRecordsCause, addresses_of, bound_next, imports_next, is_skipped, imports_from_record, imports_of_entries, record_index, later_items, library_items, library_name, pending_table}
use Rattle.goblin_pe_import.specs.ImportEntries.{EntryValue, LookupEntry}
use Rattle.goblin_pe_import.specs.ImportReadings.{import_record_at, kept_library, library_of, lookup_if}
use Rattle.goblin_pe_import.specs.Imports.{NumberedImport}
use Rattle.goblin_pe_import.specs.KeptEntries.{IsEntriesCause, KeptValue, entries_from, slots_bound}
use Rattle.goblin_pe_import.proofs.LookupWalk.{in_two, lookup_walked}
use Rattle.goblin_pe_import.proofs.PermissiveReads.{name_strict}
use Rattle.goblin_pe_sect.specs.Addresses.{Addressing, map_of, reads_strictly}
use Rattle.goblin_pe_import.specs.{LookupReadings.address_table, added.TestedTables.in_next}
use Rattle.goblin_pe_import.specs.added.TestedTables.{tested_table}
use Rattle.goblin_pe_import.proofs.added.TestedPieces.{fault-same, in_permissive, in_strict, is_read, refusal-same}

-- ---- values that may be missing

permissive_by : (strict b : Bool) → (not strict && b) ≡ true → strict ≡ false
permissive_by true b e = absurd cc
permissive_by false b e = refl

two_maps : {A B C : Type 0} (f : A → B) (h : B → C) (o : Option A)
    → option_map h (option_map f o) ≡ option_map (λ x. h (f x)) o
two_maps f h None = refl
two_maps f h (Some x) = refl

-- Which cause is true of a library, by what its walk collects of its entries.
library-fault : {W A B L R : Type 0} (make : (A × B) × R → L) (g : W → B) (name : Option A)
    (walked : Option W) (listed : Option B) (addresses : Option R)
    (IsName IsWalked IsListed IsAddressed IsLater : ErrorOf → Type 0) (e : ErrorOf)
    → listed ≡ option_map g walked → (IsWalked e → IsListed e)
    → FirstFault name IsName
    (λ _. FirstFault walked IsWalked (λ _. FirstFault addresses IsAddressed (λ _. IsLater))) e
    → FirstFault (or_left_out true (option_map make (pair_of (pair_of name listed) addresses)))
    (FirstFault (pair_of name listed) (FirstFault name IsName (λ _. IsListed)) (λ _. IsAddressed))
    (λ _. IsLater) e
library-fault make g None walked listed addresses IsName IsWalked IsListed IsAddressed IsLater e
    same chain fault = fault
library-fault make g (Some text) None listed addresses IsName IsWalked IsListed IsAddressed IsLater
    e same chain fault = rw same (chain fault)
library-fault make g (Some text) (Some x) listed None IsName IsWalked IsListed IsAddressed IsLater e
    same chain fault = rw same fault
library-fault make g (Some text) (Some x) listed (Some y) IsName IsWalked IsListed IsAddressed
    IsLater e same chain fault = rw same fault

-- kept entries and slots, where there is a table
abbrev pub in_two_if : Option ℕ → List KeptValue → Option (List LookupEntry) × List ℕ
in_two_if None kept = (None, [])
in_two_if (Some o) kept = (Some (in_two kept).0, (in_two kept).1)

-- ---- what comes from a record on

module _ (strict : Bool) (format : Format EntryValue) (addressing : Addressing)
    (bytes : List ℕ) where
  -- what is collected of a library's entries is its lookup table
  pub listed : 1 ≤ format.width → (at : Option ℕ)
      → (lookup_if strict format addressing at).value bytes
      ≡ option_map (in_two_if at)
      (all_of (entries_from strict format addressing bytes (unwrap_or at 0) at))
  unfolding lookup_if entries_from
  listed wide None = refl
  listed wide (Some o) =
      ap (option_map (λ both. (Some both.0, both.1)))
      (sym (lookup_walked strict format addressing bytes o wide).value)
      ∙ two_maps in_two (λ both. (Some both.0, both.1)) _

  module _ (first p : ℕ) where
    abbrev slots : Option ImportDirectoryEntry
    slots = (import_record_at p).value bytes

    -- what comes of the record at p, and of those after it
    abbrev pub from_record : Option ℕ → Option ImportDirectoryEntry → List (Option NumberedImport)
    from_record tested entry =
        from_slot strict is_last_record
        (library_items strict format addressing bytes tested (record_index first p))
        (imports_from_record strict format addressing bytes first (p + 20)) entry

    imports-slot : imports_from_record strict format addressing bytes first p ≡ from_record None slots
    unfolding imports_from_record
    imports-slot =
        walk-slot import_slots
        (λ p r. library_items strict format addressing bytes None (record_index first p) r) bytes strict
        (lit≤ tt) p slots refl

    -- wherever the test of its address table begins
    pub next-slot : (tested : Option ℕ)
        → imports_next strict format addressing bytes first (Some p) tested ≡ from_record tested slots
    unfolding imports_next
    next-slot None = imports-slot
    next-slot (Some place) = refl

    -- at most the last of them is a refusal
    pub imports-once : until_refused (imports_from_record strict format addressing bytes first p)
        ≡ imports_from_record strict format addressing bytes first p
    unfolding imports_from_record table_walk
    imports-once = until_refused-later [] _

    pub slot-once : (tested : Option ℕ) (entry : Option ImportDirectoryEntry)
        → until_refused (from_record tested entry) ≡ from_record tested entry
    slot-once tested None = end-once strict
      where
        end-once : (needed : Bool)
            → until_refused {A = NumberedImport} (if needed then None ∷ [] else [])
            ≡ (if needed then None ∷ [] else [])
        end-once true = refl
        end-once false = refl
    slot-once tested (Some v) = by (is_last_record v)
      where
        items : List (Option NumberedImport)
        items =
            library_items strict format addressing bytes tested (record_index first p) v
            ++ imports_from_record strict format addressing bytes first (p + 20)

        by : (last : Bool)
            → until_refused (if last then [] else until_refused items)
            ≡ (if last then [] else until_refused items)
        by true = refl
        by false = until_refused-later [] items

-- In strict mode, a cause that is true of the rest of a directory from its first entry on is true of
-- it.
module _ (format : Format EntryValue) (addressing : Addressing) (bytes : List ℕ) (p : ℕ)
    (wide : 1 ≤ format.width) (e : ErrorOf) where
  in_table : (at : Option ℕ) → IsEntriesCause true format addressing bytes at e
      → (lookup_if true format addressing at).IsCause bytes e
  unfolding lookup_if
  in_table None fault = fault
  in_table (Some place) fault = fault

  pub cause-missing : (strict : Bool) → strict ≡ true → reads import_slots bytes p ≡ None
      → (import_record_at p).IsCause bytes e → IsRecordsCause strict format addressing bytes p e
  cause-missing true is r fault =
      cause-slot None import_slots (kept_library true format addressing) bytes true import_record_at
      (lit≤ tt) p None r e (refl, fault)
  cause-missing false is r fault = absurd cc

  pub cause-given : (strict : Bool) → strict ≡ true → (v : ImportDirectoryEntry)
      → reads import_slots bytes p ≡ Some v → is_last_record v ≡ false
      → FirstFault ((library_name strict addressing v).value bytes)
      ((library_name strict addressing v).IsCause bytes)
      (λ _. IsNamedCause strict format addressing bytes v
      (IsRecordsCause strict format addressing bytes (p + 20))) e
      → IsRecordsCause strict format addressing bytes p e
  unfolding library_of
  cause-given true is v r going fault =
      let at = lookup_offset addressing v in
      let name = library_name true addressing v in
      let table = lookup_if true format addressing at in
      let addresses = addresses_of format addressing v in
      cause-slot None import_slots (kept_library true format addressing) bytes true import_record_at
      (lit≤ tt) p (Some v) r e (
        going,
        library-fault _ (in_two_if at) (name.value bytes) _ (table.value bytes) (addresses.value bytes)
            (name.IsCause bytes) (IsEntriesCause true format addressing bytes at) (table.IsCause bytes)
            (addresses.IsCause bytes) (IsRecordsCause true format addressing bytes (p + 20)) e
            (listed true format addressing bytes wide at) (in_table at) fault,
      )
  cause-given false is v r going fault = absurd cc

-- ---- the library of a record

module _ (strict : Bool) (format : Format EntryValue) (addressing : Addressing)
    (bytes : List ℕ) (first index : ℕ) (r : ImportDirectoryEntry) (next : ℕ)
    (tested : Option ℕ) where
  abbrev name : Reading (List ℕ)
  name = library_name strict addressing r

  abbrev addresses : Reading (List ℕ)
  addresses = addresses_of format addressing r

  -- what comes of the library, and then of those whose records are in the directory from `next` on
  abbrev pub whole : List (Option NumberedImport)
  whole =
      until_refused
      (library_items strict format addressing bytes tested index r
      ++ imports_from_record strict format addressing bytes first next)

  abbrev pub IsWholeCause : ErrorOf → Type 0
  IsWholeCause e =
      FirstFault (name.value bytes) (name.IsCause bytes)
      (λ _. IsNamedCause strict format addressing bytes r
      (IsRecordsCause strict format addressing bytes next)) e

  -- what is left of a walk of these parts
  abbrev pub parts_left : ℕ → List ℕ → ℕ → ℕ → Option ℕ → Option ℕ → List (Option NumberedImport)
  parts_left i dll rva o at pending =
      until_refused
      (imports_of_entries strict format addressing bytes i dll rva o at
      ++ later_items strict format addressing bytes None pending first (Some next))

  abbrev pub IsPartsCause : ℕ → Option ℕ → Option ℕ → ErrorOf → Type 0
  IsPartsCause o at pending e =
      (strict ≡ true)
      × FirstFault (all_of (entries_from strict format addressing bytes o at))
      (IsEntriesCause strict format addressing bytes at)
      (λ _. IsLaterCause strict format addressing bytes None pending (Some next)) e

  pub walk-left_out : is_skipped strict format addressing bytes tested r ≡ true
      → (i : ℕ) (dll : List ℕ) (rva o : ℕ)
      → (parts_left i dll rva o None None ≡ whole)
      × ((e : ErrorOf) → IsPartsCause o None None e → (strict ≡ true) × IsWholeCause e)
  unfolding entries_from library_items imports_next
  walk-left_out out i dll rva o = (
    rw out refl,
    λ e fault.
        let is = permissive_by strict _ out in
        absurd (cc (is, fault.0)),
  )

  abbrev at : Option ℕ
  at = lookup_offset addressing r

  module _ (dll : List ℕ) (named : name.value bytes ≡ Some dll)
      (kept : is_skipped strict format addressing bytes tested r ≡ false) where
    -- a library that is walked over
    pub entered : (parts_left index dll r.import_address_table_rva (unwrap_or at 0) at
        (Some (address_table_rva r)) ≡ whole)
        × ((e : ErrorOf)
        → IsPartsCause (unwrap_or at 0) at (Some (address_table_rva r)) e
        → (strict ≡ true) × IsWholeCause e)
    unfolding library_items imports_next
    entered =
        let imports =
        imports_of_entries strict format addressing bytes index dll r.import_address_table_rva (unwrap_or at 0)
        at in
        let table = pending_table strict format addressing None (Some (address_table_rva r)) in (
          rw (kept, named)
              (ap until_refused
              (sym (append_assoc imports (refusal_of (table.value bytes))
              (imports_from_record strict format addressing bytes first next)))),
          λ e fault. (fault.0, rw named fault.1),
        )

-- ---- once the entries of the library that a walk is in have come

module _ (format : Format EntryValue) (w : Walk) where
  abbrev strict : Bool
  strict = reads_strictly (map_of w.finder)

  abbrev addressing : Addressing
  addressing = (map_of w.finder).addressing

  abbrev bytes : List ℕ
  bytes = w.bytes.now

  abbrev table : Reading (List ℕ)
  table = pending_table strict format addressing w.at.tested w.at.pending

  -- where the test of the next record's address table goes on
  abbrev tested_next : Option ℕ
  tested_next = in_next strict w.at.tested

  -- its address table is missing
  pub later-refused : (e : ErrorOf)
      → (option_map (λ _. tt {0}) (table.value bytes) ≡ None) × table.IsCause bytes e
      → strict ≡ true → (later_left format w ≡ None ∷ []) × IsLaterLeftCause format w e
  later-refused e refused strictly =
      let none = unmapped (λ _. tt {0}) _ refused.0 in
      (rw none refl, (strictly, rw none refused.1))

  -- the walk past a piece of an address table
  abbrev pub past : Option ℕ → Option ℕ → ImportCursor
  past tested pending = record w.at { place = None; pending = pending; tested = tested }

  abbrev pub past_left : Option ℕ → Option ℕ → List (Option NumberedImport)
  past_left tested pending =
      items_left strict format addressing bytes w.dll.now (past tested pending)

  abbrev pub IsPastCause : Option ℕ → Option ℕ → ErrorOf → Type 0
  IsPastCause tested pending e =
      IsCursorCause (map_of w.finder) format bytes (past tested pending) e

  -- a piece of that table was tested, and there is more of it, or not
  module _ (rva : ℕ) (strictly : strict ≡ true) (pending : w.at.pending ≡ Some rva) where
    by_piece : (tested others : Option ℕ)
        → is_read ((tested_table format addressing w.at.tested rva).value bytes)
        ≡ is_read ((pending_table true format addressing tested others).value bytes)
        → ((e : ErrorOf) → (pending_table true format addressing tested others).IsCause bytes e
        → (tested_table format addressing w.at.tested rva).IsCause bytes e)
        → (past_left tested others ≡ later_left format w)
        × ((e : ErrorOf) → IsPastCause tested others e → IsLaterLeftCause format w e)
    unfolding entries_from
    by_piece tested others same chain = (
      rw (strictly, pending, in_strict true w.at.tested refl, in_strict true tested refl)
          (ap
          (λ (xs : List (Option NumberedImport)).
          until_refused
          (xs ++ imports_next true format addressing bytes w.at.first_record w.at.next_record None))
          (sym (refusal-same _ _ same))),
      λ e fault. (
        strictly,
        rw (strictly, pending)
            (fault-same _ _ same _ _ _ e (chain e) (rw strictly at fault.1)),
      ),
    )

    pub piece-on : (place : ℕ)
        → is_read ((tested_table format addressing w.at.tested rva).value bytes)
        ≡ is_read ((address_table format place).value bytes)
        → ((e : ErrorOf) → (address_table format place).IsCause bytes e
        → (tested_table format addressing w.at.tested rva).IsCause bytes e)
        → (past_left (Some place) w.at.pending ≡ later_left format w)
        × ((e : ErrorOf) → IsPastCause (Some place) w.at.pending e → IsLaterLeftCause format w e)
    piece-on place same chain =
        subst
        (λ (others : Option ℕ).
        (past_left (Some place) others ≡ later_left format w)
        × ((e : ErrorOf) → IsPastCause (Some place) others e → IsLaterLeftCause format w e))
        (sym pending) (by_piece (Some place) (Some rva) same chain)

    pub piece-end : is_read ((tested_table format addressing w.at.tested rva).value bytes)
        ≡ Some (tt {0})
        → (past_left None None ≡ later_left format w)
        × ((e : ErrorOf) → IsPastCause None None e → IsLaterLeftCause format w e)
    piece-end same = by_piece None None same (λ e fault. absurd fault)

  module _ (tested : option_map (λ _. tt {0}) (table.value bytes) ≡ Some (tt {0})) where
    is_there : (found : Option (List ℕ)) → option_map (λ _. tt {0}) found ≡ Some (tt {0})
        → (items : List (Option NumberedImport)) (IsTable IsLater : ErrorOf → Type 0)
        → (refusal_of found ++ items ≡ items)
        × ((e : ErrorOf) → IsLater e → FirstFault found IsTable (λ _. IsLater) e)
    is_there None e items IsTable IsLater = absurd cc
    is_there (Some x) e items IsTable IsLater = (refl, λ e fault. fault)

    abbrev from : Option ℕ → List (Option NumberedImport)
    from next =
        until_refused
        (imports_next strict format addressing bytes w.at.first_record next tested_next)

    later-from : later_left format w ≡ from w.at.next_record
    later-from =
        ap until_refused (is_there (table.value bytes) tested _ (λ e. ⊥) (λ e. ⊥)).0

    -- there are no more records
    pub later-none : w.at.next_record ≡ None → later_left format w ≡ []
    unfolding imports_next
    later-none is = later-from ∙ ap from is

    module _ (wide : 1 ≤ format.width) (p : ℕ) (is : w.at.next_record ≡ Some p) where
      abbrev index : ℕ
      index = record_index w.at.first_record p

      abbrev of_library : ImportDirectoryEntry → List (Option NumberedImport)
      of_library = library_items strict format addressing bytes tested_next index

      abbrev from_next : List (Option NumberedImport)
      from_next = imports_from_record strict format addressing bytes w.at.first_record (p + 20)

      by_record : (entry : Option ImportDirectoryEntry) → reads import_slots bytes p ≡ entry
          → later_left format w
          ≡ from_record strict format addressing bytes w.at.first_record p tested_next entry
      by_record entry r =
          later-from ∙ ap from is
          ∙ ap until_refused (next-slot strict format addressing bytes w.at.first_record p tested_next)
          ∙ slot-once strict format addressing bytes w.at.first_record p tested_next
          ((import_record_at p).value bytes)
          ∙ ap (from_record strict format addressing bytes w.at.first_record p tested_next) r

      by_cause : (e : ErrorOf) → strict ≡ true → IsRecordsCause strict format addressing bytes p e
          → IsLaterLeftCause format w e
      by_cause e strictly fault = (
        strictly,
        (is_there (table.value bytes) tested [] (table.IsCause bytes)
            (λ e. IsSomeAnd w.at.next_record (λ p. IsRecordsCause strict format addressing bytes p e))).1
            e (rw is fault),
      )

      pub later-end : (entry : Option ImportDirectoryEntry) → reads import_slots bytes p ≡ entry
          → ends_table is_last_record entry ≡ true → (strict && not (is_some entry)) ≡ false
          → later_left format w ≡ []
      later-end entry r z there =
          by_record entry r ∙ slot-end strict is_last_record of_library from_next entry z there

      pub later-missing : (e : ErrorOf) → reads import_slots bytes p ≡ None → strict ≡ true
          → (import_record_at p).IsCause bytes e
          → (later_left format w ≡ None ∷ []) × IsLaterLeftCause format w e
      later-missing e r m fault = (
        by_record None r ∙ slot-missing strict is_last_record of_library from_next m,
        by_cause e m (cause-missing format addressing bytes p wide e strict m r fault),
      )

      module _ (v : ImportDirectoryEntry) (r : reads import_slots bytes p ≡ Some v)
          (going : is_last_record v ≡ false) where
        by_whole : later_left format w
            ≡ whole strict format addressing bytes w.at.first_record index v (p + 20) tested_next
        by_whole = by_record (Some v) r ∙ slot-going strict is_last_record of_library from_next v going

        -- what is left of a walk that is in the record's library, or past it
        pub later-given : (left : List (Option NumberedImport)) (IsLeft : ErrorOf → Type 0)
            → (left ≡ whole strict format addressing bytes w.at.first_record index v (p + 20) tested_next)
            × ((e : ErrorOf) → IsLeft e → (strict ≡ true)
            × IsWholeCause strict format addressing bytes w.at.first_record index v (p + 20) tested_next e)
            → (left ≡ later_left format w)
            × ((e : ErrorOf) → IsLeft e → IsLaterLeftCause format w e)
        later-given left IsLeft h = (
          h.0 ∙ sym by_whole,
          λ e fault.
              let both = h.1 e fault in
              by_cause e both.0
              (cause-given format addressing bytes p wide e strict both.0 v r going both.1),
        )

        -- a piece of its address table was tested, and there is more of it
        pub later-piece : (place : ℕ) → strict ≡ false
            → is_skipped strict format addressing bytes tested_next v
            ≡ is_skipped strict format addressing bytes (Some place) v
            → (past_left (Some place) None ≡ later_left format w)
            × ((e : ErrorOf) → IsPastCause (Some place) None e → IsLaterLeftCause format w e)
        unfolding library_items entries_from
        later-piece place permissive same = (
          ap
              (λ (next : Option ℕ).
              until_refused
              (imports_next strict format addressing bytes w.at.first_record next
              (in_next strict (Some place))))
              is
              ∙ ap
              (λ (tested : Option ℕ).
              until_refused (imports_next strict format addressing bytes w.at.first_record (Some p) tested))
              (in_permissive strict (Some place) permissive)
              ∙ ap until_refused
              (next-slot strict format addressing bytes w.at.first_record p (Some place))
              ∙ slot-once strict format addressing bytes w.at.first_record p (Some place)
              ((import_record_at p).value bytes)
              ∙ ap (from_record strict format addressing bytes w.at.first_record p (Some place)) r
              ∙ slot-going strict is_last_record
              (library_items strict format addressing bytes (Some place) index) from_next v going
              ∙ rw (← same) refl
              ∙ sym by_whole,
          λ e fault. (let strictly = fault.0 in absurd (cc (strictly, permissive))),
        )

        -- its name is refused
        pub later-unnamed : (e : ErrorOf) → (library_name strict addressing v).value bytes ≡ None
            → (library_name strict addressing v).IsCause bytes e
            → (later_left format w ≡ None ∷ []) × IsLaterLeftCause format w e
        unfolding library_items
        later-unnamed e none fault =
            let is = name_strict strict _ none in (
              by_whole ∙ rw (none, is) refl,
              by_cause e is
                  (cause-given format addressing bytes p wide e strict is v r going (rw none fault)),
            )

-- ---- how many may come

slots_few : (bytes : List ℕ) (place : Option ℕ) → slots_bound bytes place ≤ length bytes + 1
slots_few bytes None = omega arith
slots_few bytes (Some p) = omega arith

one_few : (pending : Option ℕ) → option_len pending ≤ 1
one_few None = omega arith
one_few (Some rva) = omega arith

-- a record less makes room for a whole file of slots, and a refusal
fewer : (n p x y : ℕ) → p + 20 ≤ n → x ≤ n + 1 → y ≤ 1
    → x + y + (n + 2) * (n - (p + 20) + 1) ≤ (n + 2) * (n - p + 1)
fewer n p x y inside few one =
    let more : (n + 2) * (n - (p + 20) + 1 + 1) ≤ (n + 2) * (n - p + 1) =
    mul-le-mul_left (n + 2) (omega (arith, inside)) in
    omega (arith, few, one, more)

-- a walk that goes on in the library of the record at p
pub bound-given : (bytes : List ℕ) (p : ℕ) (place pending : Option ℕ) → p + 20 ≤ length bytes
    → slots_bound bytes place + option_len pending + bound_next bytes (Some (p + 20))
    ≤ bound_next bytes (Some p)
bound-given bytes p place pending inside =
    fewer (length bytes) p (slots_bound bytes place) (option_len pending) inside
    (slots_few bytes place) (one_few pending)
