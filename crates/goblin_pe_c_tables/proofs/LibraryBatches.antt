-- A loop that fills records with the libraries of a file from a position on.
use Rattle.std.proofs.Common.{◌≡◌, ◌≢◌, ℕ, ◌+◌, List, [], ◌∷◌, ◌++◌, ap, arith, sym, refl, ◌∙◌, ◌<◌, ◌≤◌, length, drop, take, set, subst, Bool, true, false, Option, None, Some, Ok, Err, IsSomeAnd, is_some, option_map, unwrap_or, inl, inr}
use Rattle.goblin_pe_import.specs.declared.added.imports.ImportCursor.{ImportCursor}
use Rattle.goblin_pe_import.specs.declared.added.library_walk.Libraries.{Libraries}
use Rattle.goblin_pe_import.specs.{ImportEntries.EntryValue, added.ImportWalks.no_imports}
use Rattle.goblin_pe_import.specs.declared.added.library_walk.WalkedLibrary.{WalkedLibrary}
use Rattle.goblin_base.specs.{Tables.Format, declared.error.ErrorOf.ErrorOf}
use Rattle.goblin_pe_sect.specs.Addresses.{MapOfAddresses}
use Rattle.goblin_pe_import.specs.added.Libraries.{AreLibrariesOver, Awaits, GivesLibraryWithin, LibraryValue, MovesTo, after_library, cursor_libraries, libraries_ahead, libraries_bytes, libraries_cursor, libraries_format, libraries_left, libraries_map, libraries_next, libraries_passed, libraries_steps, library_value, rows_ahead, rows_steps}
use Rattle.goblin_pe.specs.Whole.{TablePlaces, entry_format}
use Rattle.goblin_pe_import.specs.Passed.{Count, HasRisen, count_of, nothing_passed}
use Rattle.goblin_pe_import.specs.declared.import.passed.Passed.{Passed}
use Rattle.goblin_pe_import.specs.Passed.Count.{Skipped, Unmapped}
use Rattle.goblin_pe_import.proofs.PassedSlots.{risen-then}
use Rattle.goblin_pe_c_tables.specs.Batches.{PeImportCursor, batch_count, cursor_for_c, import_cursor, passed_batch}
use Rattle.goblin_pe_c_tables.specs.Libraries.{GivesLibraries, GoesOnAt, library_for_c, library_table, library_model, position_after, position_rows, position_steps}
use Rattle.goblin_pe_c_headers.specs.Onward.{TellsEnd, values_before}
use Rattle.goblin_pe_c_tables.specs.declared.library.PeLibrary.{PeLibrary}
use Rattle.goblin_pe_c_headers.proofs.Batches.{AtItems, items-cut, items-end, items-full, items-gives, items-more, items-refused, items-start, items-taken, items-then, done-cut, done-end, done-full, done-refused}
use Rattle.goblin_pe_c_tables.proofs.ImportBatches.{cursor-from_for, limit-left, limit-out, steps-then}
use Rattle.goblin_pe_import.specs.{Steps.AreCounted, TableSums.amount_of}

module _ (m : MapOfAddresses) (places : TablePlaces) (bytes : List ℕ) where
  abbrev comes : ImportCursor → List (Option LibraryValue)
  comes c = cursor_libraries m (entry_format places.magic) bytes c

  -- what is left of a walk over these bytes comes at its cursor
  pub left-at : (it : Libraries) (c : ImportCursor) → AreLibrariesOver m (entry_format places.magic) bytes it
      → libraries_cursor it ≡ c → libraries_left it ≡ comes c
  left-at it c over at =
      ap (λ (k : MapOfAddresses). cursor_libraries k (libraries_format it) (libraries_bytes it) (libraries_cursor it)) over.map_is
      ∙ ap (λ (f : Format EntryValue). cursor_libraries m f (libraries_bytes it) (libraries_cursor it)) over.format_is
      ∙ ap (λ (b : List ℕ). cursor_libraries m (entry_format places.magic) b (libraries_cursor it)) over.bytes_are
      ∙ ap comes at

  pub ahead-at : (it : Libraries) (c : ImportCursor) → AreLibrariesOver m (entry_format places.magic) bytes it
      → libraries_cursor it ≡ c → (k : Count) → libraries_ahead it k ≡ rows_ahead m (entry_format places.magic) bytes k c
  ahead-at it c over at k =
      ap (λ (n : MapOfAddresses). rows_ahead n (libraries_format it) (libraries_bytes it) k (libraries_cursor it)) over.map_is
      ∙ ap (λ (f : Format EntryValue). rows_ahead m f (libraries_bytes it) k (libraries_cursor it)) over.format_is
      ∙ ap (λ (b : List ℕ). rows_ahead m (entry_format places.magic) b k (libraries_cursor it)) over.bytes_are
      ∙ ap (rows_ahead m (entry_format places.magic) bytes k) at

  pub steps-at : (it : Libraries) (c : ImportCursor) → AreLibrariesOver m (entry_format places.magic) bytes it
      → libraries_cursor it ≡ c → libraries_steps it ≡ rows_steps m (entry_format places.magic) bytes c
  steps-at it c over at =
      ap (λ (n : MapOfAddresses). rows_steps n (libraries_format it) (libraries_bytes it) (libraries_cursor it)) over.map_is
      ∙ ap (λ (f : Format EntryValue). rows_steps m f (libraries_bytes it) (libraries_cursor it)) over.format_is
      ∙ ap (λ (b : List ℕ). rows_steps m (entry_format places.magic) b (libraries_cursor it)) over.bytes_are
      ∙ ap (rows_steps m (entry_format places.magic) bytes) at

  -- the cursor at a position
  abbrev pub at_position : PeImportCursor → Option ImportCursor
  at_position p = (import_cursor m places p).value bytes

  -- at the numbers of a cursor it is that one
  pub at-numbers : (p : PeImportCursor) (c : ImportCursor) → p ≡ cursor_for_c c → at_position p ≡ Some c
  at-numbers p c numbers =
      ap at_position numbers ∙ ap (λ (at : ImportCursor). Some at) (cursor-from_for c)

  -- what comes and is ahead at a walk's cursor
  module _ (p : PeImportCursor) (it : Libraries) (over : AreLibrariesOver m (entry_format places.magic) bytes it)
      (at : at_position p ≡ Some (libraries_cursor it)) where
    pub goes-on : (library_table m places bytes).from p ≡ Some (libraries_left it)
    goes-on =
        ap (option_map comes) at
        ∙ ap (λ (items : List (Option LibraryValue)). Some items) (sym (left-at it (libraries_cursor it) over refl))

    pub rows-at : (k : Count) → position_rows m places bytes p k ≡ libraries_ahead it k
    rows-at k =
        ap (amount_of (rows_ahead m (entry_format places.magic) bytes k)) at
        ∙ sym (ahead-at it (libraries_cursor it) over refl k)

    pub looks-at : position_steps m places bytes p ≡ libraries_steps it
    looks-at =
        ap (amount_of (rows_steps m (entry_format places.magic) bytes)) at
        ∙ sym (steps-at it (libraries_cursor it) over refl)

  -- nothing comes at the end
  pub none-at_end : (p : PeImportCursor) → p ≡ cursor_for_c no_imports → (library_table m places bytes).from p ≡ Some []
  unfolding libraries_next
  none-at_end p numbers = ap (option_map comes) (at-numbers p no_imports numbers)

none-left : {A : Type 0} (o : Option A) → is_some o ≡ false → o ≡ None
none-left None is = refl
none-left (Some x) is = absurd (cc is)

-- ---- the loop

-- a call of `next` keeps what is walked over
pub over-next : (m : MapOfAddresses) (format : Format EntryValue) (bytes : List ℕ) (s t : Libraries)
    → AreLibrariesOver m format bytes s
    → AreLibrariesOver (libraries_map s) (libraries_format s) (libraries_bytes s) t → AreLibrariesOver m format bytes t
over-next m format bytes s t over again = record {
  bytes_are = again.bytes_are ∙ over.bytes_are;
  map_is = again.map_is ∙ over.map_is;
  format_is = again.format_is ∙ over.format_is;
}

-- the records hold the libraries that have come so far
pub record AtLibraries (m : MapOfAddresses) (places : TablePlaces) (bytes : List ℕ) (steps : ℕ) (start : Libraries) (from : PeImportCursor) (old : List PeLibrary)
    (now : Libraries) (p : PeImportCursor) (left : ℕ) (passed : Passed) (records : List PeLibrary) (count : ℕ) : Type 0 where
  pub at : AtItems (library_table m places bytes) libraries_left start from old now p records count
  pub over : AreLibrariesOver m (entry_format places.magic) bytes now
  pub moved : p ≡ position_after from at.values
  pub cursor : at_position m places bytes p ≡ Some (libraries_cursor now)
  pub looked : position_steps m places bytes from + left ≡ libraries_steps now + steps
  pub passed_is : libraries_passed now ≡ passed
  pub counted : (k : Count) → HasRisen 0 (count_of k passed) (position_rows m places bytes from k) (libraries_ahead now k)

pub libraries-start : (m : MapOfAddresses) (places : TablePlaces) (bytes : List ℕ) (steps : ℕ) (start : Libraries) (from : PeImportCursor) (old : List PeLibrary)
    → at_position m places bytes from ≡ Some (libraries_cursor start) → AreLibrariesOver m (entry_format places.magic) bytes start
    → (passed : Passed) → libraries_passed start ≡ passed → passed ≡ nothing_passed
    → AtLibraries m places bytes steps start from old start from steps passed old 0
unfolding items-start position_after
libraries-start m places bytes steps start from old begins over passed is none =
    let looks = looks-at m places bytes from start over begins in
    record {
      at = items-start (library_table m places bytes) libraries_left start from old (goes-on m places bytes from start over begins);
      over = over;
      moved = refl;
      cursor = begins;
      looked = omega (arith, looks);
      passed_is = is;
      counted = λ k. rw none (by k);
    }
  where
    by : (k : Count) → HasRisen 0 (count_of k nothing_passed) (position_rows m places bytes from k) (libraries_ahead start k)
    by Skipped = let same = rows-at m places bytes from start over begins Skipped in (omega (arith, same), omega (arith, same))
    by Unmapped = let same = rows-at m places bytes from start over begins Unmapped in (omega (arith, same), omega (arith, same))

-- after one more
after-more : (p : PeImportCursor) (libraries : List LibraryValue) (x : LibraryValue)
    → position_after p (libraries ++ x ∷ []) ≡ cursor_for_c (after_library x)
unfolding position_after
after-more p [] x = refl
after-more p (y ∷ libraries) x = after-more (cursor_for_c (after_library y)) libraries x

module _ {m : MapOfAddresses} {places : TablePlaces} {bytes : List ℕ} {steps : ℕ} {start : Libraries} {from : PeImportCursor} {old : List PeLibrary}
    {now : Libraries} {p : PeImportCursor} {left : ℕ} {passed : Passed} {records : List PeLibrary} {count : ℕ}
    (h : AtLibraries m places bytes steps start from old now p left passed records count) where
  abbrev Given : PeImportCursor → ℕ → Passed → Bool → Type 0
  Given q rest counts is_done =
      GivesLibraries steps rest m places bytes (record { position = from; records = old }) (record { position = q; records = records }) (passed_batch count counts is_done)

  abbrev Counts : PeImportCursor → Passed → Bool → Type 0
  Counts q counts is_done =
      (k : Count) → HasRisen 0 (batch_count k (passed_batch count counts is_done)) (position_rows m places bytes from k) (position_rows m places bytes q k)

  abbrev Says : PeImportCursor → ℕ → Passed → Bool → List (Option LibraryValue) → Type 0
  Says q rest counts is_done items =
      TellsEnd (rest ≡ 0) (drop count items) (length old) count is_done
      × (AreCounted (Some steps) (Some rest) (position_steps m places bytes from) (position_steps m places bytes q)
      × (is_done ≡ true → position_steps m places bytes q ≡ 0)
      × (is_done ≡ true → q ≡ cursor_for_c no_imports)
      × (is_done ≡ false → GoesOnAt m places bytes (rest ≡ 0) (position_after from (take count (values_before items))) q)
      × Counts q counts is_done)

  -- where it goes on
  moves : p ≡ position_after from (take count (values_before (libraries_left start)))
  moves = h.moved ∙ ap (position_after from) (sym (items-taken h.at))

  -- what was looked at up to the last library
  kept : AreCounted (Some steps) (Some left) (position_steps m places bytes from) (position_steps m places bytes p)
  kept = h.looked ∙ ap (λ (n : ℕ). n + steps) (sym (looks-at m places bytes p now h.over h.cursor))

  -- what a walk has counted is counted in the batch
  in-batch : (q : PeImportCursor) (counts : Passed) (is_done : Bool) (next : Libraries) → ((k : Count) → position_rows m places bytes q k ≡ libraries_ahead next k)
      → ((k : Count) → HasRisen 0 (count_of k counts) (position_rows m places bytes from k) (libraries_ahead next k)) → Counts q counts is_done
  in-batch q counts is_done next same rises k = rw (same k) (by k (rises k))
    where
      by : (k : Count) → HasRisen 0 (count_of k counts) (position_rows m places bytes from k) (libraries_ahead next k)
          → HasRisen 0 (batch_count k (passed_batch count counts is_done)) (position_rows m places bytes from k) (libraries_ahead next k)
      by Skipped r = r
      by Unmapped r = r

  counts : Counts p passed false
  counts = in-batch p passed false now (rows-at m places bytes p now h.over h.cursor) h.counted

  -- a call counts on
  more : (next : Libraries) → ((k : Count) → HasRisen (count_of k (libraries_passed now)) (count_of k (libraries_passed next)) (libraries_ahead now k) (libraries_ahead next k))
      → (k : Count) → HasRisen 0 (count_of k (libraries_passed next)) (position_rows m places bytes from k) (libraries_ahead next k)
  more next rises k =
      risen-then 0 (count_of k passed) (count_of k (libraries_passed next)) (position_rows m places bytes from k) (libraries_ahead now k) (libraries_ahead next k)
      (h.counted k) (subst (λ (x : Passed). HasRisen (count_of k x) (count_of k (libraries_passed next)) (libraries_ahead now k) (libraries_ahead next k)) h.passed_is (rises k))

  pub libraries-more : (x : WalkedLibrary) (next : Libraries) (q : PeImportCursor) (limit : Option ℕ) (rest : ℕ) (r : PeLibrary)
      → GivesLibraryWithin now (Some left) (Some (Ok x)) next limit → rest ≡ unwrap_or limit 0
      → q ≡ cursor_for_c (libraries_cursor next) → count < length records → library_model r ≡ library_for_c m (library_value x)
      → (to : Passed) → to ≡ libraries_passed next → AtLibraries m places bytes steps start from old next q rest to (set records count r) (count + 1)
  unfolding items-more items-then
  libraries-more x next q limit rest r given is numbers within says to to_is =
      let over = over-next m (entry_format places.magic) bytes now next h.over given.moves.over in
      let cursor = at-numbers m places bytes q (libraries_cursor next) numbers in
      let one = limit-left left limit (libraries_steps now) (libraries_steps next) given.moves.looked in
      let looked = h.looked in
      record {
        at = items-more h.at (library_value x) next q r given.moves.steps.0 within says (goes-on m places bytes q next over cursor);
        over = over;
        moved = numbers ∙ ap cursor_for_c given.moves.after ∙ sym (after-more from h.at.values (library_value x));
        cursor = cursor;
        looked = omega (arith, looked, one, is);
        passed_is = sym to_is;
        counted = λ k. rw to_is (more next given.moves.passed k);
      }

  pub libraries-full : length records ≤ count → Given p left passed false
  libraries-full full =
      items-gives h.at (Says p left passed false) p (items-full h.at full)
      (done-full h.at full, (kept, (λ done. absurd (cc done)), (λ done. absurd (cc done)), (λ going. inl moves), counts))

  module _ (next : Libraries) (limit : Option ℕ) (given : GivesLibraryWithin now (Some left) None next limit)
      (within : count < length records) (rest : ℕ) (is : rest ≡ unwrap_or limit 0) (q : PeImportCursor) where
    over : AreLibrariesOver m (entry_format places.magic) bytes next
    over = over-next m (entry_format places.magic) bytes now next h.over given.moves.over

    stays : length old ≡ 0 → q ≡ from
    stays none = absurd (let same = h.at.held.same in omega (arith, none, same, within))

    looked : AreCounted (Some steps) (Some rest) (position_steps m places bytes from) (libraries_steps next)
    looked =
        rw is (steps-then steps left limit (position_steps m places bytes from) (libraries_steps now) (libraries_steps next) h.looked given.moves.looked)

    -- nothing more comes
    pub libraries-end : is_some (libraries_cursor next).next_record ≡ false → q ≡ cursor_for_c no_imports → Given q rest (libraries_passed next) true
    unfolding libraries_next
    libraries-end ends numbers =
        let at = none-left (libraries_cursor next).next_record ends in
        let none : libraries_left next ≡ [] = rw at refl in
        let no_steps : libraries_steps next ≡ 0 = rw at refl in
        let cursor = at-numbers m places bytes q no_imports numbers in
        let end : position_steps m places bytes q ≡ 0 = ap (amount_of (rows_steps m (entry_format places.magic) bytes)) cursor in
        let rows : (k : Count) → position_rows m places bytes q k ≡ libraries_ahead next k =
        λ k. ap (amount_of (rows_ahead m (entry_format places.magic) bytes k)) cursor ∙ sym (rw at refl) in
        items-gives h.at (Says q rest (libraries_passed next) true) q
        (items-end h.at q (given.moves.steps.0 ∙ none) (none-at_end m places bytes q numbers) stays) (
          done-end h.at (given.moves.steps.0 ∙ none) within,
          (
            subst (λ (n : ℕ). AreCounted (Some steps) (Some rest) (position_steps m places bytes from) n) (no_steps ∙ sym end) looked,
            (λ done. end),
            (λ done. numbers),
            (λ going. absurd (cc going)),
            in-batch q (libraries_passed next) true next rows (more next given.moves.passed),
          ),
        )

    -- the steps have run out
    pub libraries-cut : is_some (libraries_cursor next).next_record ≡ true → q ≡ cursor_for_c (libraries_cursor next)
        → Given q rest (libraries_passed next) false
    libraries-cut goes numbers = elim given.ended [
      | inl ended ↦ absurd (cc (ap (λ (c : ImportCursor). is_some c.next_record) ended, goes))
      | inr run ↦
          let out : rest ≡ 0 = is ∙ limit-out limit run in
          let cursor = at-numbers m places bytes q (libraries_cursor next) numbers in
          items-gives h.at (Says q rest (libraries_passed next) false) q
          (items-cut h.at q out (goes-on m places bytes q next over cursor ∙ ap (λ (items : List (Option LibraryValue)). Some items) (sym given.moves.steps.0)) stays) (
            done-cut h.at out,
            (
              subst (λ (n : ℕ). AreCounted (Some steps) (Some rest) (position_steps m places bytes from) n) (sym (looks-at m places bytes q next over cursor)) looked,
              (λ done. absurd (cc done)),
              (λ done. absurd (cc done)),
              (λ going. inr (out, there)),
              in-batch q (libraries_passed next) false next (rows-at m places bytes q next over cursor) (more next given.moves.passed),
            ),
          )
    ]
      where
        awaits : MovesTo (libraries_cursor now) None (libraries_cursor next) → Awaits (libraries_cursor now) (libraries_cursor next)
        awaits (inl ended) = absurd (cc (ap (λ (c : ImportCursor). is_some c.next_record) ended, goes))
        awaits (inr at) = at

        there : IsSomeAnd (at_position m places bytes (position_after from (take count (values_before (libraries_left start)))))
            (λ c. (d : ImportCursor) × (Awaits c d × (q ≡ cursor_for_c d)))
        there =
            subst (λ (at : PeImportCursor). IsSomeAnd (at_position m places bytes at) (λ c. (d : ImportCursor) × (Awaits c d × (q ≡ cursor_for_c d)))) moves
            (subst (λ (at : Option ImportCursor). IsSomeAnd at (λ c. (d : ImportCursor) × (Awaits c d × (q ≡ cursor_for_c d)))) (sym h.cursor)
            (libraries_cursor next, (awaits given.moves.after, numbers)))

  module _ (e : ErrorOf) (next : Libraries) (limit : Option ℕ) (given : GivesLibraryWithin now (Some left) (Some (Err e)) next limit) where
    pub libraries-refused : count ≢ 0 → Given p left passed false
    libraries-refused some =
        items-gives h.at (Says p left passed false) p (items-refused h.at given.moves.steps.0 some)
        (done-refused h.at given.moves.steps.0, (kept, (λ done. absurd (cc done)), (λ done. absurd (cc done)), (λ going. inl moves), counts))
