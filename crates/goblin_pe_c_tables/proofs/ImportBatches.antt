-- A loop that fills records with the imports of a file from a position on.
use Rattle.std.proofs.Common.{◌≡◌, ◌≢◌, append-nil, ℕ, ◌+◌, ◌<◌, ◌≤◌, List, [], ◌∷◌, ◌++◌, if◌then◌else◌, length, drop, set, ap, subst, sym, refl, arith, ◌∙◌, inl, inr, is_none, is_some, Bool, true, false, ◌&&◌, Option, None, Some, Ok, Err, unwrap_or}
use Rattle.std.specs.Bool.{then_some}
use Rattle.std.proofs.{lemmas.Bool.and_parts, lemmas.List.append_assoc, lemmas.List.length-append}
use Rattle.goblin_base.specs.declared.error.ErrorOf.{ErrorOf}
use Rattle.goblin_pe_import.specs.declared.added.imports.ImportCursor.{ImportCursor}
use Rattle.goblin_pe_import.specs.declared.added.imports.WalkedImport.{WalkedImport}
use Rattle.goblin_pe_import.specs.{Imports.NumberedImport, KeptEntries.entries_from}
use Rattle.goblin_pe_import.specs.Steps.{AreCounted, IsOut}
use Rattle.goblin_pe_sect.specs.Addresses.{MapOfAddresses, reads_strictly}
use Rattle.goblin_pe_import.specs.added.ImportWalks.{imports_next, walked_value}
use Rattle.goblin_pe.specs.added.Layouts.{GivesFileWithin, IsImportWalk, file_ahead, file_bytes, file_cursor, file_cursor_ahead, file_cursor_left, file_cursor_passes, file_imports_left, file_passed, file_passes}
use Rattle.goblin_pe.proofs.added.ImportStarts.{walk-ahead, walk-left, walk-passes}
use Rattle.goblin_pe.specs.{Whole.TablePlaces, declared.added.file_imports.FileImports.FileImports}
use Rattle.goblin_pe.specs.declared.added.file_imports.FileImports.TheVariants.{Narrow, Wide}
use Rattle.goblin_pe_c_tables.specs.Imports.{PeImport, import_for_c, import_model}
use Rattle.goblin_pe_c_tables.specs.Batches.{PeImportCursor, Fills, GivesImports, GivesInFile, GoesOn, cursor_for_c, cursor_from_c, batch_count, import_table, is_over, passed_batch, position_ahead, position_passes}
use Rattle.goblin_pe_import.specs.Passed.{Count, HasRisen, count_of}
use Rattle.goblin_pe_import.specs.declared.import.passed.Passed.{Passed}
use Rattle.goblin_pe_import.specs.Passed.Count.{Skipped, Unmapped}
use Rattle.goblin_pe_import.proofs.PassedSlots.{risen-same, risen-then}
use Rattle.goblin_pe_c_headers.specs.Onward.{AtBatch, TellsEnd, unrefused}
use Rattle.goblin_pe_c_headers.proofs.Batches.{AtItems, batch-more, items-cut, items-end, items-full, items-gives, items-refused, items-then, done-cut, done-end, done-full, done-refused}

-- ---- the numbers of a cursor

option-from_for : (o : Option ℕ) → then_some (is_some o) (unwrap_or o 0) ≡ o
option-from_for None = refl
option-from_for (Some n) = refl

pub cursor-from_for : (c : ImportCursor) → cursor_from_c (cursor_for_c c) ≡ c
cursor-from_for c = rw (option-from_for c.next_record, option-from_for c.place, option-from_for c.pending, option-from_for c.tested) refl

pub none-is : {A : Type 0} (o : Option A) → is_none o ≡ true → o ≡ None
none-is None is = refl
none-is (Some x) is = absurd (cc is)

-- a cursor that is over
pub over-is : (c : ImportCursor) → is_over c ≡ true → (c.place ≡ None) × (c.next_record ≡ None) × (c.pending ≡ None)
over-is c over =
    let last = and_parts (is_none c.place && is_none c.next_record) (is_none c.pending) over in
    let both = and_parts (is_none c.place) (is_none c.next_record) last.0 in
    (none-is c.place both.0, none-is c.next_record both.1, none-is c.pending last.1)

-- ---- a walk goes on

module _ (m : MapOfAddresses) (places : TablePlaces) (bytes : List ℕ) where
  -- at the numbers of its cursor
  pub goes-at : (p : PeImportCursor) (c : ImportCursor) (imports : FileImports) → IsImportWalk m places.magic bytes imports
      → file_imports_left imports ≡ file_cursor_left m places.magic bytes c → file_cursor imports ≡ c → p ≡ cursor_for_c c
      → GoesOn m places bytes p imports
  goes-at p c imports walk left at numbers = record {
    walk = walk;
    ahead = ap (position_ahead m places bytes) numbers
        ∙ ap (λ (at : ImportCursor). file_cursor_ahead m places.magic bytes at) (cursor-from_for c)
        ∙ sym (walk-ahead m places.magic bytes c imports (walk, at));
    passes = λ k.
        ap (λ (p : PeImportCursor). position_passes m places bytes p k) numbers
        ∙ ap (λ (at : ImportCursor). file_cursor_passes m places.magic bytes at k) (cursor-from_for c)
        ∙ sym (walk-passes m places.magic bytes c imports (walk, at) k);
    left = ap ((import_table m places bytes).from) numbers
        ∙ ap (λ (at : ImportCursor). Some (file_cursor_left m places.magic bytes at)) (cursor-from_for c)
        ∙ ap (λ (items : List (Option NumberedImport)). Some items) (sym left);
  }

  -- nothing is left at a cursor that is over
  over-left : (c : ImportCursor) → is_over c ≡ true → file_cursor_left m places.magic bytes c ≡ []
  unfolding entries_from imports_next
  over-left c over = let none = over-is c over in rw (none.0, none.1, none.2) refl

  none-ahead : (strict : Bool) (x y z : ℕ) → x ≡ 0 → y ≡ 0 → z ≡ 0 → x + ((if strict then y else 0) + z) ≡ 0
  none-ahead true x y z a b d = omega (arith, a, b, d)
  none-ahead false x y z a b d = omega (arith, a, b, d)

  -- and nothing is ahead
  over-ahead : (c : ImportCursor) → is_over c ≡ true → file_cursor_ahead m places.magic bytes c ≡ 0
  over-ahead c over = let none = over-is c over in rw (none.0, none.1, none.2) (none-ahead (reads_strictly m) _ _ _ refl refl refl)

-- ---- the imports of a library

-- it gave the values that the records hold
pub record AreGivenIn (s t : FileImports) (Holds : List NumberedImport → Type 0) : Type 0 where
  values : List NumberedImport
  held : Holds values
  ahead : file_ahead s ≡ length values + file_ahead t
  yielded : file_imports_left s ≡ unrefused values ++ file_imports_left t
  passes : (k : Count) → file_passes s k ≡ file_passes t k
  passed : file_passed t ≡ file_passed s
  -- it keeps what is walked over
  pub kept : (m : MapOfAddresses) (magic : ℕ) (bytes : List ℕ) → IsImportWalk m magic bytes s → IsImportWalk m magic bytes t

pub library-given : (s t : FileImports) (Holds : List NumberedImport → Type 0) → GivesInFile s t Holds → AreGivenIn s t Holds
library-given (Narrow s) (Narrow t) Holds gives = record {
  values = gives.values;
  held = gives.held;
  ahead = gives.ahead;
  yielded = gives.yielded;
  passes = gives.passes;
  passed = gives.passed;
  kept = λ m magic bytes walk. (walk.0, (gives.over.0 ∙ walk.1.0, gives.over.1 ∙ walk.1.1), gives.kept walk.2);
}
library-given (Wide s) (Wide t) Holds gives = record {
  values = gives.values;
  held = gives.held;
  ahead = gives.ahead;
  yielded = gives.yielded;
  passes = gives.passes;
  passed = gives.passed;
  kept = λ m magic bytes walk. (walk.0, (gives.over.0 ∙ walk.1.0, gives.over.1 ∙ walk.1.1), gives.kept walk.2);
}
library-given (Narrow s) (Wide t) Holds gives = absurd gives
library-given (Wide s) (Narrow t) Holds gives = absurd gives

-- nothing was filled, and one record more
pub filled-none : (longest : Option ℕ) (records : List PeImport) (first : ℕ) → Fills longest records records first first []
filled-none longest records first = (
  omega arith,
  λ base before at.
      subst (λ (values : List NumberedImport). AtBatch import_model (import_for_c longest) base values records first) (sym (append-nil before)) at,
)

pub filled-more : (longest : Option ℕ) (old records : List PeImport) (first count : ℕ) (x : WalkedImport) (r : PeImport) → count < length records
    → import_model r ≡ import_for_c longest (walked_value x) → (values : List NumberedImport) → Fills longest old records first count values
    → Fills longest old (set records count r) first (count + 1) (values ++ walked_value x ∷ [])
filled-more longest old records first count x r within says values h = (
  (let so_far = h.0 in omega (arith, so_far, length-append values (walked_value x ∷ []))),
  λ base before at.
      subst (λ (values : List NumberedImport). AtBatch import_model (import_for_c longest) base values (set records count r) (count + 1))
      (append_assoc before values (walked_value x ∷ []))
      (batch-more import_model (import_for_c longest) base (before ++ values) records count (walked_value x) r (h.1 base before at) within says),
)

-- ---- steps

-- what a limit has left
pub limit-left : (left : ℕ) (limit : Option ℕ) (before after : ℕ) → AreCounted (Some left) limit before after
    → before + unwrap_or limit 0 ≡ after + left
limit-left left None before after h = absurd h
limit-left left (Some b) before after h = h

pub limit-out : (limit : Option ℕ) → IsOut limit → unwrap_or limit 0 ≡ 0
limit-out None out = absurd out
limit-out (Some b) out = out

pub steps-then : (steps left : ℕ) (limit : Option ℕ) (before ahead after : ℕ) → before + left ≡ ahead + steps
    → AreCounted (Some left) limit ahead after → AreCounted (Some steps) (Some (unwrap_or limit 0)) before after
steps-then steps left None before ahead after h counted = absurd counted
steps-then steps left (Some b) before ahead after h counted = omega (arith, h, counted)

-- the bytes that a walk is over
pub over-bytes : (m : MapOfAddresses) (magic : ℕ) (bytes : List ℕ) (imports : FileImports) → IsImportWalk m magic bytes imports
    → file_bytes imports ≡ bytes
over-bytes m magic bytes (Narrow imports) walk = walk.1.0
over-bytes m magic bytes (Wide imports) walk = walk.1.0

-- ---- the loop

-- the records hold what has come so far, and the walk goes on
pub record AtImports (m : MapOfAddresses) (places : TablePlaces) (bytes : List ℕ) (steps : ℕ) (start : FileImports) (from : PeImportCursor) (old : List PeImport)
    (now : FileImports) (p : PeImportCursor) (left : ℕ) (passed : Passed) (records : List PeImport) (count : ℕ) : Type 0 where
  pub at : AtItems (import_table m places bytes) file_imports_left start from old now p records count
  pub goes : GoesOn m places bytes p now
  pub counted : position_ahead m places bytes from + left ≡ file_ahead now + steps
  pub passed_is : file_passed now ≡ passed
  pub passes : (k : Count) → HasRisen 0 (count_of k passed) (position_passes m places bytes from k) (file_passes now k)

module _ {m : MapOfAddresses} {places : TablePlaces} {bytes : List ℕ} {steps : ℕ} {start : FileImports} {from : PeImportCursor} {old : List PeImport}
    {now : FileImports} {p : PeImportCursor} {left : ℕ} {passed : Passed} {records : List PeImport} {count : ℕ}
    (h : AtImports m places bytes steps start from old now p left passed records count) where
  -- what a call has counted comes to what was counted before it
  more : (next : FileImports) → ((k : Count) → HasRisen (count_of k (file_passed now)) (count_of k (file_passed next)) (file_passes now k) (file_passes next k))
      → (k : Count) → HasRisen 0 (count_of k (file_passed next)) (position_passes m places bytes from k) (file_passes next k)
  more next rises k =
      risen-then 0 (count_of k passed) (count_of k (file_passed next)) (position_passes m places bytes from k) (file_passes now k) (file_passes next k)
      (h.passes k) (subst (λ (x : Passed). HasRisen (count_of k x) (count_of k (file_passed next)) (file_passes now k) (file_passes next k)) h.passed_is (rises k))

  -- an import has come, and those of its library that there is room for
  pub library-more : (x : WalkedImport) (next last : FileImports) (q : PeImportCursor) (limit : Option ℕ) (left1 left2 : ℕ) (r : PeImport) (new : List PeImport) (end : ℕ) (longest : Option ℕ)
      → longest ≡ m.addressing.longest
      → GivesFileWithin now (Some left) (Some (Ok x)) next limit → left1 ≡ unwrap_or limit 0 → count < length records → import_model r ≡ import_for_c longest (walked_value x)
      → GivesInFile next last (Fills longest (set records count r) new (count + 1) end)
      → file_ahead next + left2 ≡ file_ahead last + left1 → GoesOn m places bytes q last
      → AtImports m places bytes steps start from old last q left2 (file_passed next) new end
  library-more x next last q limit left1 left2 r new end longest up_to gives is within says fills spent goes =
      let value = import_for_c m.addressing.longest in
      let at = batch-more import_model value old h.at.values records count (walked_value x) r h.at.held within (says ∙ ap (λ (n : Option ℕ). import_for_c n (walked_value x)) up_to) in
      let filled = library-given next last (Fills m.addressing.longest (set records count r) new (count + 1) end) (subst (λ (n : Option ℕ). GivesInFile next last (Fills n (set records count r) new (count + 1) end)) up_to fills) in
      let one = limit-left left limit (file_ahead now) (file_ahead next) gives.looked in
      let counted = h.counted in
      let last_is = filled.held.0 in
      record {
        at = items-then h.at (walked_value x ∷ filled.values) last q new end
            (gives.steps.0 ∙ ap (λ (items : List (Option NumberedImport)). Some (walked_value x) ∷ items) filled.yielded)
            (subst (λ (values : List NumberedImport). AtBatch import_model value old values new end) (append_assoc h.at.values (walked_value x ∷ []) filled.values)
            (filled.held.1 old (h.at.values ++ walked_value x ∷ []) at))
            (omega (arith, last_is)) goes.left;
        goes = goes;
        counted = omega (arith, counted, one, is, spent);
        passed_is = filled.passed;
        passes = λ k.
            risen-same 0 (count_of k (file_passed next)) (position_passes m places bytes from k) (file_passes next k) (file_passes last k)
            (more next gives.passed k) (filled.passes k);
      }

  -- what a batch has given that ends at these numbers
  abbrev AreGiven : PeImportCursor → ℕ → Passed → Bool → Type 0
  AreGiven q rest counts is_done =
      GivesImports steps rest m places bytes (record { position = from; records = old }) (record { position = q; records = records }) (passed_batch count counts is_done)

  abbrev Says : PeImportCursor → ℕ → Passed → Bool → List (Option NumberedImport) → Type 0
  Says q rest counts is_done items =
      TellsEnd (rest ≡ 0) (drop count items) (length old) count is_done
      × (AreCounted (Some steps) (Some rest) (position_ahead m places bytes from) (position_ahead m places bytes q)
      × (is_done ≡ true → position_ahead m places bytes q ≡ 0)
      × ((k : Count) → HasRisen 0 (batch_count k (passed_batch count counts is_done)) (position_passes m places bytes from k) (position_passes m places bytes q k)))

  -- what a walk has counted is counted in the batch
  in-batch : (q : PeImportCursor) (counts : Passed) (is_done : Bool) (next : FileImports) → ((k : Count) → position_passes m places bytes q k ≡ file_passes next k)
      → ((k : Count) → HasRisen 0 (count_of k counts) (position_passes m places bytes from k) (file_passes next k))
      → (k : Count) → HasRisen 0 (batch_count k (passed_batch count counts is_done)) (position_passes m places bytes from k) (position_passes m places bytes q k)
  in-batch q counts is_done next same rises k =
      risen-same 0 (batch_count k (passed_batch count counts is_done)) (position_passes m places bytes from k) (file_passes next k) (position_passes m places bytes q k)
      (by k (rises k)) (sym (same k))
    where
      by : (k : Count) → HasRisen 0 (count_of k counts) (position_passes m places bytes from k) (file_passes next k)
          → HasRisen 0 (batch_count k (passed_batch count counts is_done)) (position_passes m places bytes from k) (file_passes next k)
      by Skipped r = r
      by Unmapped r = r

  -- what was looked at up to the last import
  kept : AreCounted (Some steps) (Some left) (position_ahead m places bytes from) (position_ahead m places bytes p)
  kept = h.counted ∙ ap (λ (n : ℕ). n + steps) (sym h.goes.ahead)

  counts : (k : Count) → HasRisen 0 (batch_count k (passed_batch count passed false)) (position_passes m places bytes from k) (position_passes m places bytes p k)
  counts = in-batch p passed false now h.goes.passes h.passes

  -- there is no more room
  pub imports-full : length records ≤ count → AreGiven p left passed false
  imports-full full = items-gives h.at (Says p left passed false) p (items-full h.at full) (done-full h.at full, (kept, (λ done. absurd (cc done)), counts))

  module _ (next : FileImports) (limit : Option ℕ) (given : GivesFileWithin now (Some left) None next limit) (q : PeImportCursor)
      (goes : GoesOn m places bytes q next) (within : count < length records) (rest : ℕ) (is : rest ≡ unwrap_or limit 0) where
    over : file_bytes now ≡ bytes
    over = over-bytes m places.magic bytes now h.goes.walk

    looked : AreCounted (Some steps) (Some rest) (position_ahead m places bytes from) (position_ahead m places bytes q)
    looked =
        rw (is, goes.ahead) (steps-then steps left limit (position_ahead m places bytes from) (file_ahead now) (file_ahead next) h.counted
        given.looked)

    counts-all : (is_done : Bool) (k : Count) → HasRisen 0 (batch_count k (passed_batch count (file_passed next) is_done)) (position_passes m places bytes from k) (position_passes m places bytes q k)
    counts-all is_done = in-batch q (file_passed next) is_done next goes.passes (more next given.passed)

    stays : length old ≡ 0 → q ≡ from
    stays none = absurd (let same = h.at.held.same in omega (arith, none, same, within))

    -- nothing more comes, or the steps have run out
    pub imports-end : (ends : Bool) → ends ≡ is_over (file_cursor next) → AreGiven q rest (file_passed next) ends
    imports-end true ends =
        let none : file_imports_left next ≡ [] =
        walk-left m places.magic bytes (file_cursor next) next (goes.walk, refl)
        ∙ over-left m places bytes (file_cursor next) (sym ends) in
        let end = goes.ahead ∙ walk-ahead m places.magic bytes (file_cursor next) next (goes.walk, refl) ∙ over-ahead m places bytes (file_cursor next) (sym ends) in
        items-gives h.at (Says q rest (file_passed next) true) q
        (items-end h.at q (given.steps.0 ∙ none) (goes.left ∙ ap (λ (items : List (Option NumberedImport)). Some items) none) stays)
        (done-end h.at (given.steps.0 ∙ none) within, (looked, (λ done. end), counts-all true))
    imports-end false ends = elim given.ended [
      | inl ended ↦ absurd (cc (ends ∙ ap is_over ended))
      | inr run ↦
          let out : rest ≡ 0 = is ∙ limit-out limit run in
          items-gives h.at (Says q rest (file_passed next) false) q
          (items-cut h.at q out (goes.left ∙ ap (λ (items : List (Option NumberedImport)). Some items) (sym given.steps.0)) stays)
          (done-cut h.at out, (looked, (λ done. absurd (cc done)), counts-all false))
    ]

  module _ (e : ErrorOf) (next : FileImports) (limit : Option ℕ) (given : GivesFileWithin now (Some left) (Some (Err e)) next limit) where
    -- a refusal comes after something
    pub imports-refused : count ≢ 0 → AreGiven p left passed false
    imports-refused some =
        items-gives h.at (Says p left passed false) p (items-refused h.at given.steps.0 some) (done-refused h.at given.steps.0, (kept, (λ done. absurd (cc done)), counts))
