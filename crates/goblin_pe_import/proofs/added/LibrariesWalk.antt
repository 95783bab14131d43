-- The walk over the libraries of an import directory, look by look.
use Rattle.std.proofs.Common.{◌≡◌, ◌≤◌, ◌+◌, ℕ, suc, Bool, true, false, not, ◌&&◌, List, [], ◌∷◌, length, Option, Some, None, refl, sym, ap, subst, ◌∙◌, lit≤, arith, is_some, inl, inr, IsSome, IsSomeAnd, Result, Ok, Err}
use Rattle.std.specs.Int.{from_bool}
use Rattle.goblin_base.specs.{declared.error.ErrorOf.ErrorOf, Answers.IsMemory, Bytes.slice_at, Tables.ends_table}
use Rattle.goblin_base.proofs.{Records.record_at-some, SlotTables.reads}
use Rattle.readings.specs.Reads.{given}
use Rattle.readings.specs.Walks.{from_slot, table_walk, until_refused}
use Rattle.readings.proofs.Walks.{IsSlotCause, cause-slot, slot-end, slot-going, slot-missing, until_refused-later, walk-slot}
use Rattle.goblin_pe_sect.specs.Addresses.{reads_strictly}
use Rattle.goblin_pe_import.specs.declared.import.passed.Passed.{Passed}
use Rattle.goblin_pe_import.specs.{ImportReadings.import_record_at}
use Rattle.goblin_pe_import.specs.declared.added.library_walk.Libraries.{Libraries}
use Rattle.goblin_pe_import.specs.declared.added.library_walk.WalkedLibrary.{WalkedLibrary}
use Rattle.goblin_pe_import.specs.ImportRecords.{address_table_rva, import_slots, is_last_record, ImportDirectoryEntry}
use Rattle.goblin_pe_import.specs.Passed.{Count, count_of, risen}
use Rattle.goblin_pe_import.specs.Steps.{HasSteps, IsOut, spent}
use Rattle.goblin_pe_import.specs.added.ImportWalks.{ImportCursor, lacks_table, no_imports}
use Rattle.goblin_pe_import.specs.added.TestedTables.{pieces, tested_slots}
use Rattle.goblin_pe_import.specs.added.Libraries.{AreLibrariesOver, Awaits, GivesLibraryWithin, GivesNextLibrary, IsLibrariesCause, LibraryValue, MovesTo, MovesWithin, after_library, at_record, directory_records, libraries_bytes, libraries_format, libraries_left, libraries_map, libraries_next, libraries_steps, library_at, library_row, library_value, row_counts, row_steps, tested_at}
use Rattle.goblin_pe_import.proofs.PassedSlots.{risen-start, risen-then}
use Rattle.goblin_pe_import.proofs.SlotSteps.{counted-one, counted-start, grown_none, grown_spent, refused-one}
use Rattle.goblin_pe_import.proofs.added.PassedLibraries.{counted-end, rows-more, rows-piece}
use Rattle.goblin_pe_import.proofs.added.StepsAhead.{counted-over, grown_then, refused-over}
use Rattle.goblin_pe_import.proofs.added.TestedPieces.{summed-end, summed-first}

-- a walk that has ended
pub ended-left : (s : Libraries) → s.at ≡ no_imports → libraries_left s ≡ []
unfolding libraries_next
ended-left s is = rw is refl

-- what a walk is over that goes on over the same
pub over-then : (s now t : Libraries)
    → AreLibrariesOver (libraries_map s) (libraries_format s) (libraries_bytes s) now
    → AreLibrariesOver (libraries_map now) (libraries_format now) (libraries_bytes now) t
    → AreLibrariesOver (libraries_map s) (libraries_format s) (libraries_bytes s) t
over-then s now t over again = record {
  bytes_are = again.bytes_are ∙ over.bytes_are;
  map_is = again.map_is ∙ over.map_is;
  format_is = again.format_is ∙ over.format_is;
}

-- ---- a look

module _ (s : Libraries) (steps : Option ℕ) where
  abbrev strict : Bool
  strict = reads_strictly (libraries_map s)

  abbrev bytes : List ℕ
  bytes = libraries_bytes s

  abbrev tested : Option ℕ
  tested = tested_at s.at

  abbrev library : Option ℕ → ℕ → ImportDirectoryEntry → LibraryValue
  library from p r =
      library_at (libraries_format s) (libraries_map s).addressing bytes s.at.first_record p from r

  -- the libraries whose records come from a place on, and the cause of a refusal among them
  abbrev left : Option ℕ → Option ℕ → List (Option LibraryValue)
  left =
      libraries_next strict (libraries_format s) (libraries_map s).addressing bytes s.at.first_record

  abbrev IsEnd : Option ℕ → ErrorOf → Type 0
  IsEnd next e = IsSomeAnd next (λ p. (directory_records strict p).IsCause bytes e)

  -- no directory is left
  pub moves-none : s.at.next_record ≡ None → (t : Libraries) → t ≡ record s { at = no_imports }
      → MovesWithin s steps None t steps
  unfolding libraries_next
  moves-none is t after =
      rw after (record {
        steps = (rw is refl, λ e fault. absurd fault);
        fault = tt;
        over = record { bytes_are = refl; map_is = refl; format_is = refl };
        after = inl refl;
        passed = λ k. rw is (risen-start (count_of k s.passed) 0);
        spent = grown_none steps;
        looked = rw is (counted-start steps 0);
        bound = rw is (omega arith);
        fewer = tt;
      })

  module _ (p : ℕ) (is : s.at.next_record ≡ Some p) where
    abbrev items : Option ℕ → ImportDirectoryEntry → List (Option LibraryValue)
    items from r = Some (library from p r) ∷ []

    abbrev next : List (Option LibraryValue)
    next = left (Some (p + 20)) None

    by_tested : (from : Option ℕ) (entry : Option ImportDirectoryEntry)
        → reads import_slots bytes p ≡ entry
        → left (Some p) from ≡ from_slot strict is_last_record (items from) next entry
    unfolding libraries_next
    by_tested None entry r =
        walk-slot import_slots (λ p r. Some (library None p r) ∷ []) bytes strict (lit≤ tt) p entry r
    by_tested (Some place) entry r = ap (from_slot strict is_last_record (items (Some place)) next) r

    by_record : (entry : Option ImportDirectoryEntry) → reads import_slots bytes p ≡ entry
        → libraries_left s ≡ from_slot strict is_last_record (items tested) next entry
    by_record entry r = ap (λ (at : Option ℕ). left at tested) is ∙ by_tested tested entry r

    by_cause : (entry : Option ImportDirectoryEntry) → reads import_slots bytes p ≡ entry
        → (e : ErrorOf)
        → IsSlotCause strict is_last_record (λ v. Some (v ∷ [])) ((import_record_at p).IsCause bytes)
        (λ v e. ⊥) (IsEnd (Some (p + 20))) entry e
        → IsLibrariesCause s e
    by_cause entry r e fault =
        subst (λ (next : Option ℕ). IsEnd next e) (sym is)
        (cause-slot None import_slots (λ v. given (v ∷ [])) bytes strict import_record_at (lit≤ tt) p entry r e
        fault)

    -- at most the last of them is a refusal
    once : until_refused next ≡ next
    unfolding libraries_next table_walk
    once = until_refused-later [] _

    abbrev amounts : Option ℕ → ImportDirectoryEntry → ℕ
    amounts = row_steps (libraries_map s) (libraries_format s) bytes

    abbrev counts : Count → Option ℕ → ImportDirectoryEntry → ℕ
    counts = row_counts (libraries_map s) (libraries_format s) bytes

    -- the directory ends here
    pub moves-end : (entry : Option ImportDirectoryEntry) → reads import_slots bytes p ≡ entry
        → ends_table is_last_record entry ≡ true → (strict && not (is_some entry)) ≡ false
        → (passed : Passed)
        → passed.skipped ≡ risen s.passed.skipped (from_bool (not (is_some (slice_at bytes p 20))))
        → passed.unmapped ≡ s.passed.unmapped → (t : Libraries)
        → t ≡ record s { at = no_imports; passed = passed }
        → MovesWithin s steps None t steps
    unfolding libraries_next
    moves-end entry r z there passed skipped unmapped t after =
        let none = summed-end amounts bytes p tested entry r z in
        rw after (record {
          steps = (
            by_record entry r ∙ slot-end strict is_last_record (items tested) next entry z there,
            λ e fault. absurd fault,
          );
          fault = tt;
          over = record { bytes_are = refl; map_is = refl; format_is = refl };
          after = inl refl;
          passed = λ k. rw is (counted-end counts bytes p tested entry r z s.passed passed skipped unmapped k);
          spent = grown_none steps;
          looked = rw (is, none) (counted-start steps 0);
          bound = rw is (omega arith);
          fewer = tt;
        })

    -- it reaches the end of the file
    pub moves-missing : HasSteps steps → (e : ErrorOf) → reads import_slots bytes p ≡ None
        → strict ≡ true → (import_record_at p).IsCause bytes e → ¬ IsMemory e → (t : Libraries)
        → t ≡ record s { at = no_imports } → MovesWithin s steps (Some (Err e)) t (spent steps 1)
    unfolding libraries_next
    moves-missing has e r strictly fault other t after =
        rw after (record {
          steps = (
            by_record None r ∙ slot-missing strict is_last_record (items tested) next strictly,
            refl,
            by_cause None r e (strictly, fault),
          );
          fault = other;
          over = record { bytes_are = refl; map_is = refl; format_is = refl };
          after = tt;
          passed = tt;
          spent = grown_spent steps steps 1 (grown_none steps);
          looked = refused-one steps steps (libraries_steps s) (libraries_steps s) has (grown_none steps)
              (counted-start steps (libraries_steps s));
          bound = rw is (omega arith);
          fewer = rw is (omega arith);
        })

    module _ (has : HasSteps steps) (v : ImportDirectoryEntry) (r : reads import_slots bytes p ≡ Some v)
        (going : is_last_record v ≡ false) where
      abbrev table_pieces : Option ℕ → ℕ
      table_pieces from =
          pieces (tested_slots (libraries_format s) (libraries_map s).addressing bytes from (address_table_rva v))

      abbrev lacks : Option ℕ → Bool
      lacks from = lacks_table (libraries_format s) (libraries_map s).addressing bytes from v

      first : libraries_steps s ≡ table_pieces tested + libraries_steps (record s { at = at_record s.at.first_record (p + 20) })
      first = rw is (summed-first amounts bytes p tested v r going)

      -- a piece was tested of its library's address table, and there is more of it
      pub steps-piece : (place : ℕ) → table_pieces tested ≡ suc (table_pieces (Some place))
          → (t : Libraries)
          → t ≡ record s { at = record (at_record s.at.first_record p) { tested = Some place } }
          → libraries_steps s ≡ suc (libraries_steps t)
      steps-piece place more t after =
          let here = summed-first amounts bytes p (Some place) v r going in
          rw after (omega (arith, first, here, more))

      pub moves-piece : (place : ℕ) → lacks tested ≡ lacks (Some place)
          → table_pieces tested ≡ suc (table_pieces (Some place)) → (t : Libraries)
          → t ≡ record s { at = record (at_record s.at.first_record p) { tested = Some place } }
          → MovesWithin s steps None t (spent steps 1)
      moves-piece place same more t after =
          let one = steps-piece place more t after in
          record {
            steps = rw after (
              by_record (Some v) r
                  ∙ ap
                  (λ (out : Bool).
                  from_slot strict is_last_record
                  (λ v. Some (library_row (libraries_map s).addressing bytes s.at.first_record p v out) ∷ [])
                  next (Some v))
                  same
                  ∙ sym (by_tested (Some place) (Some v) r),
              λ e fault. subst (λ (next : Option ℕ). IsEnd next e) (sym is) fault,
            );
            fault = tt;
            over = rw after (record { bytes_are = refl; map_is = refl; format_is = refl });
            after = rw (after, is) (inr (inr (refl, (place, refl))));
            passed = λ k. rw (after, is) (rows-piece (libraries_map s) (libraries_format s) bytes p v r going tested place same (count_of k s.passed) k);
            spent = grown_spent steps steps 1 (grown_none steps);
            looked = counted-one steps steps (libraries_steps s) (libraries_steps s) (libraries_steps t) has one
                (counted-start steps (libraries_steps s));
            bound = rw (after, is) (omega arith);
            fewer = tt;
          }

      module _ (out : Bool) (out_is : lacks tested ≡ out) (one : table_pieces tested ≡ 1) (passed : Passed)
          (t : Libraries) (after : t ≡ record s { at = at_record s.at.first_record (p + 20); passed = passed })
        where
          pub steps-given : libraries_steps s ≡ suc (libraries_steps t)
          steps-given = rw after (omega (arith, first, one))

          -- a library comes, and then those after it
          pub moves-given : (x : WalkedLibrary)
              → library_value x ≡ library_row (libraries_map s).addressing bytes s.at.first_record p v out
              → passed.skipped ≡ risen s.passed.skipped (from_bool (not strict && out))
              → passed.unmapped ≡ s.passed.unmapped
              → MovesWithin s steps (Some (Ok x)) t (spent steps 1)
          moves-given x value skipped unmapped =
              let there = (record_at-some 20 _ _ _ _ r).end in
              let fits : p + 20 ≤ length bytes = there in
              record {
                steps = rw after (
                  by_record (Some v) r ∙ slot-going strict is_last_record (items tested) next v going
                      ∙ ap (λ (later : List (Option LibraryValue)). Some (library tested p v) ∷ later) once
                      ∙ ap (λ (y : Bool). Some (library_row (libraries_map s).addressing bytes s.at.first_record p v y) ∷ next) out_is
                      ∙ ap (λ (y : LibraryValue). Some y ∷ next) (sym value),
                  λ e fault. by_cause (Some v) r e (going, fault),
                );
                fault = tt;
                over = rw after (record { bytes_are = refl; map_is = refl; format_is = refl });
                after = rw after (sym (ap after_library value));
                passed = λ k. rw (after, is) (rows-more (libraries_map s) (libraries_format s) bytes p v r going tested (not strict && out) (ap (λ (y : Bool). not strict && y) (sym out_is)) s.passed passed skipped unmapped k);
                spent = grown_spent steps steps 1 (grown_none steps);
                looked = counted-one steps steps (libraries_steps s) (libraries_steps s) (libraries_steps t) has steps-given
                    (counted-start steps (libraries_steps s));
                bound = rw (after, is) (omega (arith, fits));
                fewer = rw (after, is) (omega (arith, fits));
              }

-- ---- a call

abbrev in_table : ImportCursor → ℕ → ImportCursor
in_table c place = record no_imports {
  first_record = c.first_record;
  next_record = c.next_record;
  tested = Some place;
}

awaits-then : (c d e : ImportCursor) → Awaits c d → Awaits d e → Awaits c e
awaits-then c d e (inl same) (inl is) = inl (is ∙ same)
awaits-then c d e (inr at) (inl is) = inr (at.0, (at.1.0, is ∙ at.1.1))
awaits-then c d e (inl same) (inr to) =
    subst (λ (x : ImportCursor). Awaits x e) same (inr to)
awaits-then c d e (inr at) (inr to) =
    inr (at.0, (to.1.0, to.1.1 ∙ ap (λ (x : ImportCursor). in_table x to.1.0) at.1.1))

moves-on : (c d e : ImportCursor) → MovesTo c None d → MovesTo d None e → MovesTo c None e
moves-on c d e h (inl ended) = inl ended
moves-on c d e (inr at) (inr to) = inr (awaits-then c d e at to)
moves-on c d e (inl ended) (inr (inl is)) = inl (is ∙ ended)
moves-on c d e (inl ended) (inr (inr to)) =
    absurd (cc (subst (λ (x : ImportCursor). IsSome x.next_record) ended to.0))

-- looks that gave nothing, and one more
pub moves-then : (s now t : Libraries) (old mid new : Option ℕ)
    (result : Option (Result WalkedLibrary ErrorOf)) → MovesWithin s old None now mid
    → MovesWithin now mid result t new → MovesWithin s old result t new
moves-then s now t old mid new None h more = record {
  steps = (h.steps.0 ∙ more.steps.0, λ e fault. h.steps.1 e (more.steps.1 e fault));
  fault = tt;
  over = over-then s now t h.over more.over;
  after = moves-on s.at now.at t.at h.after more.after;
  passed = λ k. risen-then _ _ _ _ _ _ (h.passed k) (more.passed k);
  spent = grown_then old mid new h.spent more.spent;
  looked = counted-over old mid new (libraries_steps s) (libraries_steps now) (libraries_steps t) h.looked more.looked;
  bound = omega (arith, h.bound, more.bound);
  fewer = tt;
}
moves-then s now t old mid new (Some (Ok x)) h more = record {
  steps = (h.steps.0 ∙ more.steps.0, λ e fault. h.steps.1 e (more.steps.1 e fault));
  fault = tt;
  over = over-then s now t h.over more.over;
  after = more.after;
  passed = λ k. risen-then _ _ _ _ _ _ (h.passed k) (more.passed k);
  spent = grown_then old mid new h.spent more.spent;
  looked = counted-over old mid new (libraries_steps s) (libraries_steps now) (libraries_steps t) h.looked more.looked;
  bound = omega (arith, h.bound, more.bound);
  fewer = omega (arith, h.bound, more.fewer);
}
moves-then s now t old mid new (Some (Err e)) h more = record {
  steps = (h.steps.0 ∙ more.steps.0, more.steps.1, h.steps.1 e more.steps.2);
  fault = more.fault;
  over = over-then s now t h.over more.over;
  after = tt;
  passed = tt;
  spent = grown_then old mid new h.spent more.spent;
  looked = refused-over old mid new (libraries_steps s) (libraries_steps now) h.spent h.looked more.looked;
  bound = omega (arith, h.bound, more.bound);
  fewer = omega (arith, h.bound, more.fewer);
}

-- without a limit it gives the next library, or is at the end
pub library-given : (s t : Libraries) (result : Option (Result WalkedLibrary ErrorOf)) (new : Option ℕ)
    → GivesLibraryWithin s None result t new → GivesNextLibrary s result t
library-given s t None new given =
    elim given.ended [
      | inl ended ↦
          let none = ended-left t ended in
          ((given.moves.steps.0 ∙ none, none), tt, given.moves.over, tt, ended, given.moves.passed)
      | inr out ↦ absurd (subst IsOut given.moves.spent out)
    ]
library-given s t (Some (Ok x)) new given =
    (given.moves.steps, tt, given.moves.over, given.moves.after, tt, given.moves.passed)
library-given s t (Some (Err e)) new given =
    (given.moves.steps, given.moves.fault, given.moves.over, tt, given.ended, given.moves.passed)
