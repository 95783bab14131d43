-- A loop that fills records with what comes next of a table.
use Rattle.std.proofs.Common.{◌≡◌, ◌≢◌, ◌⊎◌, ◌==◌, ◌&&◌, not, ℕ, ◌+◌, ◌<◌, ◌≤◌, List, [], ◌∷◌, ◌++◌, length, map, min, take, drop, set, ap, subst, sym, refl, arith, ◌∙◌, inl, inr, Option, None, Some, IsSomeAnd, MatchResult, Result, Ok, Err, append-nil, Bool, true, false}
use Rattle.std.proofs.{lemmas.Bool.Decides.nat_tests, lemmas.Grind.drop_more_same}
use Rattle.std.proofs.Math.Seq.{drop-append_seam, take-append_seam}
use Rattle.std.proofs.lemmas.List.{append_assoc, drop-set-lt, length-append, length-map, length-set, map-append, take_all, take_more_set}
use Rattle.goblin_base.specs.{declared.error.ErrorOf.ErrorOf, Reading.Reading}
use Rattle.goblin_pe_c_headers.specs.Filled.{Filled}
use Rattle.goblin_pe_c_headers.specs.Onward.{AtBatch, Batch, FillsFrom, FillsNext, IsNextFault, IsRefusedNext, Table, TellsEnd, rows_given, unrefused, values_before}

-- ---- the values before a refusal

pub before-all : {A : Type 0} (xs : List A) (items : List (Option A)) → values_before (unrefused xs ++ items) ≡ xs ++ values_before items
unfolding values_before
before-all [] items = refl
before-all {A} (x ∷ xs) items = ap (λ (ys : List A). x ∷ ys) (before-all xs items)

-- ---- the records

-- where there is room for one more
pub room : {R B : Type 0} (view : R → B) (done : List B) (old records : List R) (b : B) (r : R) (n : ℕ) → Filled view done old records → length records ≡ length old → length done ≡ n → view r ≡ b → n < length old → Filled view (done ++ b ∷ []) old (set records n r)
room {R} {B} view done old records b r n h same is says lt =
    let count : length (done ++ b ∷ []) ≡ n + 1 = length-append done (b ∷ []) ∙ ap (λ (m : ℕ). m + 1) is in
    let here : n < length records = omega (arith, same, lt) in
    let first : map view (take n records) ≡ take (length old) done = rw (← is) (h.0) in
    let all : take (length old) done ≡ done = take_all (length old) done (omega (arith, is, lt)) in
    let more : take (length old) (done ++ b ∷ []) ≡ done ++ b ∷ [] = take_all (length old) (done ++ b ∷ []) (omega (arith, count, lt)) in
    let rest : drop n records ≡ drop n old = rw (← is) (h.1) in (
      rw count (ap (map view) (take_more_set records n r here) ∙ map-append view (take n records) (r ∷ []) ∙ ap (λ (t : List B). t ++ view r ∷ []) (first ∙ all) ∙ ap (λ (x : B). done ++ x ∷ []) says ∙ sym more),
      rw count (drop-set-lt (n + 1) records n r (omega arith) ∙ drop_more_same records old n rest),
    )

module _ {R A B : Type 0} (view : R → B) (value_of : A → B) (old : List R) where
  pub batch-start : AtBatch view value_of old [] old 0
  batch-start =
      let no : List B = [] in
      let none : take (length old) no ≡ no = take_all (length old) no (omega arith) in
      record { counted = refl; filled = (sym none, refl); same = refl; fits = omega arith }

  pub batch-more : (values : List A) (records : List R) (count : ℕ) (a : A) (r : R) → AtBatch view value_of old values records count → count < length records → view r ≡ value_of a
      → AtBatch view value_of old (values ++ a ∷ []) (set records count r) (count + 1)
  batch-more values records count a r h within says =
      let here : count < length old = omega (arith, within, h.same) in
      let counted : length (map value_of values) ≡ count = length-map values value_of ∙ h.counted in
      record {
        counted = length-append values (a ∷ []) ∙ ap (λ (n : ℕ). n + 1) h.counted;
        filled = subst (λ (made : List B). Filled view made old (set records count r)) (sym (map-append value_of values (a ∷ [])))
            (room view (map value_of values) old records (value_of a) r count h.filled h.same counted says here);
        same = length-set records count r ∙ h.same;
        fits = omega (arith, here);
      }

  -- there is no more room, or nothing more to come
  batch-end : (values more next : List A) (records : List R) (count : ℕ) → AtBatch view value_of old values records count → next ≡ values ++ more
      → (length old ≤ count) ⊎ (more ≡ []) → count ≡ min (length old) (length next)
  batch-end values more next records count h is end =
      let all : length next ≡ count + length more =
      ap (λ (xs : List A). length xs) is ∙ length-append values more ∙ ap (λ (n : ℕ). n + length more) h.counted in
      elim end [
        | inl full ↦ omega (arith, all, full, h.fits)
        | inr none ↦ (let few = all ∙ ap (λ (xs : List A). count + length xs) none in omega (arith, few, h.fits))
      ]

-- ---- the end

-- without room a batch does not say that the walk is over
pub done-at_room : {A IsCut : Type 0} {rest : List (Option A)} (room count : ℕ) (is_done : Bool) → (is_done ≡ true → rest ≡ [])
    → (is_done ≡ false → (room ≤ count) ⊎ IsCut ⊎ IsRefusedNext rest) → TellsEnd IsCut rest room count (is_done && not (room == 0))
done-at_room room count true ended goes_on = record {
  ended = λ _. ended refl;
  without_room = λ none. rw none refl;
  goes_on = λ is. inl (grind (arith, nat_tests, is));
}
done-at_room room count false ended goes_on = record { ended = λ is. absurd (cc is); without_room = λ _. refl; goes_on = goes_on }

-- ---- the loop

module _ {P R A B S : Type 0} (table : Table P R A B) (left : S → List (Option A)) (start : S) (at : P) (old : List R) where
  -- The records hold what has come so far; `left` says what is to come where the loop is now, and that comes from the position.
  pub record AtItems (now : S) (p : P) (records : List R) (count : ℕ) : Type 0 where
    pub begins : table.from at ≡ Some (left start)
    pub values : List A
    pub held : AtBatch table.view table.value_of old values records count
    pub yielded : left start ≡ unrefused values ++ left now
    pub goes : table.from p ≡ Some (left now)
    pub first : count ≡ 0 → (now ≡ start) × (p ≡ at)

  unfoldable pub items-start : table.from at ≡ Some (left start) → AtItems start at old 0
  items-start begins = record {
    begins = begins;
    values = [];
    held = batch-start table.view table.value_of old;
    yielded = refl;
    goes = begins;
    first = λ none. (refl, refl);
  }

module _ {P R A B S : Type 0} {table : Table P R A B} {left : S → List (Option A)} {start : S} {at : P} {old : List R}
    {now : S} {p : P} {records : List R} {count : ℕ} (h : AtItems table left start at old now p records count) where
  -- several have come
  unfoldable pub items-then : (more : List A) (next : S) (q : P) (new : List R) (end : ℕ) → left now ≡ unrefused more ++ left next
      → AtBatch table.view table.value_of old (h.values ++ more) new end → 0 < end → table.from q ≡ Some (left next) → AtItems table left start at old next q new end
  items-then more next q new end given held some goes = record {
    begins = h.begins;
    values = h.values ++ more;
    held = held;
    yielded = h.yielded ∙ ap (λ (items : List (Option A)). unrefused h.values ++ items) given ∙ sym (append_assoc (unrefused h.values) (unrefused more) (left next))
        ∙ ap (λ (items : List (Option A)). items ++ left next) (sym (map-append (λ (x : A). Some x) h.values more));
    goes = goes;
    first = λ none. absurd (omega (arith, none, some));
  }

  -- one more has come
  unfoldable pub items-more : (x : A) (next : S) (q : P) (r : R) → left now ≡ Some x ∷ left next → count < length records → table.view r ≡ table.value_of x
      → table.from q ≡ Some (left next) → AtItems table left start at old next q (set records count r) (count + 1)
  items-more x next q r given within says goes =
      items-then (x ∷ []) next q (set records count r) (count + 1) given (batch-more table.view table.value_of old h.values records count x r h.held within says) (omega arith) goes

  -- what has come is the front of all, and the rest is left
  pub items-taken : take count (values_before (left start)) ≡ h.values
  items-taken =
      ap (λ (items : List (Option A)). take count (values_before items)) h.yielded ∙ ap (λ (xs : List A). take count xs) (before-all h.values (left now))
      ∙ ap (λ (n : ℕ). take n (h.values ++ values_before (left now))) (sym h.held.counted) ∙ take-append_seam h.values (values_before (left now))

  items-left : drop count (left start) ≡ left now
  items-left =
      ap (λ (items : List (Option A)). drop count items) h.yielded
      ∙ ap (λ (n : ℕ). drop n (unrefused h.values ++ left now)) (sym (length-map h.values (λ (x : A). Some x) ∙ h.held.counted)) ∙ drop-append_seam (unrefused h.values) (left now)

  -- without room nothing has come
  pub items-stay : length old ≡ 0 → p ≡ at
  items-stay none = (h.first (let fits = h.held.fits in omega (arith, fits, none))).1

  -- what a batch has given that ends now
  abbrev pub Given : Type 0 → P → Type 0
  Given IsCut q = FillsFrom table IsCut (left start) (record { position = at; records = old }) (record { position = q; records = records }) count

  -- it was cut
  pub items-cut : {IsCut : Type 0} (q : P) → IsCut → table.from q ≡ Some (left now) → (length old ≡ 0 → q ≡ at) → Given IsCut q
  items-cut q cut goes stays = record {
    counted = batch-end table.view table.value_of old h.values [] (take count (values_before (left start))) records count h.held (items-taken ∙ sym (append-nil h.values)) (inr refl);
    filled = subst (λ (made : List A). Filled table.view (map table.value_of made) old records) (sym items-taken) h.held.filled;
    later = goes ∙ ap (λ (items : List (Option A)). Some items) (sym items-left);
    whole = inl cut;
    stays = stays;
  }

  -- all is given that there is room for, or that comes before a refusal
  whole : {IsCut : Type 0} (q : P) → (length old ≤ count) ⊎ (values_before (left now) ≡ []) → (count ≡ 0 → IsRefusedNext (left now) → length old ≡ 0)
      → table.from q ≡ Some (left now) → (length old ≡ 0 → q ≡ at) → Given IsCut q
  whole q why begun goes stays =
      let fills = items-cut {IsCut = q ≡ q} q refl goes stays in
      let all = ap (λ (items : List (Option A)). values_before items) h.yielded ∙ before-all h.values (left now) in
      let counted = batch-end table.view table.value_of old h.values (values_before (left now)) (values_before (left start)) records count h.held all why in
      record {
        counted = fills.counted;
        filled = fills.filled;
        later = fills.later;
        whole = inr (counted, refused h.values refl h.yielded);
        stays = stays;
      }
    where
      refused : (values : List A) → h.values ≡ values → left start ≡ unrefused h.values ++ left now → IsRefusedNext (left start) → length old ≡ 0
      refused [] none all first =
          let here : left start ≡ left now = all ∙ ap (λ (xs : List A). unrefused xs ++ left now) none in
          begun (sym h.held.counted ∙ ap (λ (xs : List A). length xs) none) (subst (λ (items : List (Option A)). IsRefusedNext items) here first)
      refused (x ∷ xs) some all first =
          let here : left start ≡ unrefused (x ∷ xs) ++ left now = all ∙ ap (λ (xs : List A). unrefused xs ++ left now) some in
          absurd (subst (λ (items : List (Option A)). IsRefusedNext items) here first)

  -- there is no more room
  pub items-full : {IsCut : Type 0} → length records ≤ count → Given IsCut p
  items-full full =
      let same = h.held.same in
      whole p (inl (omega (arith, full, same))) (λ none refused. omega (arith, full, same, none)) h.goes items-stay

  -- nothing more comes
  pub items-end : {IsCut : Type 0} (q : P) → left now ≡ [] → table.from q ≡ Some [] → (length old ≡ 0 → q ≡ at) → Given IsCut q
  unfolding values_before
  items-end q none goes stays =
      whole q (inr (rw none refl)) (λ first refused. absurd (subst (λ (items : List (Option A)). IsRefusedNext items) none refused))
      (goes ∙ ap (λ (items : List (Option A)). Some items) (sym none)) stays

  -- a refusal comes after something
  pub items-refused : {IsCut : Type 0} → left now ≡ None ∷ [] → count ≢ 0 → Given IsCut p
  unfolding values_before
  items-refused is some =
      whole p (inr (rw is refl)) (λ none refused. absurd (some none)) h.goes items-stay

  -- or at once
  pub items-fault : left now ≡ None ∷ [] → count ≡ 0 → count < length records
      → IsRefusedNext (left start) × (0 < length old) × (now ≡ start) × (p ≡ at) × (records ≡ old)
  items-fault is none within =
      let same = h.held.same in
      let first = h.first none in (
        subst (λ (items : List (Option A)). IsRefusedNext items) (sym (sym (ap left first.0) ∙ is)) tt,
        omega (arith, within, same),
        first.0,
        first.1,
        own h.values h.held.counted h.held.filled,
      )
    where
      own : (values : List A) → length values ≡ count → Filled table.view (map table.value_of values) old records → records ≡ old
      own [] counted filled = filled.1
      own (x ∷ xs) counted filled = absurd (omega (arith, counted, none))

  -- the batch says that this is the end
  abbrev pub TellsDone : Type 0 → Bool → Type 0
  TellsDone IsCut is_done = TellsEnd IsCut (drop count (left start)) (length old) count is_done

  pub done-end : {IsCut : Type 0} → left now ≡ [] → count < length records → TellsDone IsCut true
  done-end none within = record {
    ended = λ is. items-left ∙ none;
    without_room = λ room. absurd (let same = h.held.same in omega (arith, room, same, within));
    goes_on = λ is. absurd (cc is);
  }

  -- where there may be no room
  pub done-none : {IsCut : Type 0} → left now ≡ [] → TellsDone IsCut (not (length old == 0))
  done-none none = done-at_room (length old) count true (λ _. items-left ∙ none) (λ is. absurd (cc is))

  -- or not, as there is no more room, or it was cut, or a refusal comes
  done-not : {IsCut : Type 0} → (length old ≤ count) ⊎ IsCut ⊎ IsRefusedNext (drop count (left start)) → TellsDone IsCut false
  done-not why = done-at_room (length old) count false (λ is. absurd (cc is)) (λ _. why)

  pub done-full : {IsCut : Type 0} → length records ≤ count → TellsDone IsCut false
  done-full full = let same = h.held.same in done-not (inl (omega (arith, full, same)))

  pub done-cut : {IsCut : Type 0} → IsCut → TellsDone IsCut false
  done-cut cut = done-not (inr (inl cut))

  pub done-refused : {IsCut : Type 0} → left now ≡ None ∷ [] → TellsDone IsCut false
  done-refused is = done-not (inr (inr (subst (λ (items : List (Option A)). IsRefusedNext items) (sym (items-left ∙ is)) tt)))

  -- what a batch has given of its table
  pub items-gives : {IsCut : Type 0} (Holds : List (Option A) → Type 0) (q : P) → Given IsCut q → Holds (left start)
      → IsSomeAnd (table.from at) (λ left. FillsFrom table IsCut left (record { position = at; records = old }) (record { position = q; records = records }) count × Holds left)
  items-gives {IsCut} Holds q fills holds =
      subst
      (λ (from : Option (List (Option A))). IsSomeAnd from (λ left. FillsFrom table IsCut left (record { position = at; records = old }) (record { position = q; records = records }) count × Holds left))
      (sym h.begins) (fills, holds)

-- ---- a batch

-- where nothing comes
pub none-given : {P R A B : Type 0} (table : Table P R A B) (IsCut : Type 0) (Holds : List (Option A) → Type 0) (at : P) (old : List R) → table.from at ≡ Some [] → Holds []
    → FillsNext table IsCut Holds (record { position = at; records = old }) (record { position = at; records = old }) (rows_given 0 (not (length old == 0)))
none-given {P} {R} {A} table IsCut Holds at old none holds =
    let start = items-start table (λ (items : List (Option A)). items) [] at old none in
    items-gives start (λ left. TellsEnd IsCut (drop 0 left) (length old) 0 (not (length old == 0)) × Holds left) at (items-end start at refl none (λ _. refl)) (done-none start refl, holds)

-- what is answered of a loop that began there
pub answered : {P R S A X : Type 0} (read : Reading S) (bytes : List ℕ) (left : S → List (Option A)) (IsCause : S → ErrorOf → Type 0) (old new : Batch P R) (Gives : X → Type 0)
    (s : S) (items : List (Option A)) (IsOwn : ErrorOf → Type 0) → read.value bytes ≡ Some s → items ≡ left s → ((e : ErrorOf) → IsOwn e → IsCause s e) → (r : Result X ErrorOf)
    → MatchResult r Gives (λ e. IsRefusedNext items × IsOwn e × (0 < length old.records) × (new ≡ old))
    → MatchResult r Gives (λ e. IsNextFault read bytes left IsCause old e × (new ≡ old))
answered read bytes left IsCause old new Gives s items IsOwn is same causes (Ok batch) given = given
answered {P} {R} {S} {A} {X} read bytes left IsCause old new Gives s items IsOwn is same causes (Err e) given = (
  rw is (given.2, subst (λ (items : List (Option A)). IsRefusedNext items) same given.0, causes e given.1),
  given.3,
)

-- what is filled from there is filled from elsewhere
pub fills-by : {P Q R A B : Type 0} (view : R → B) (value_of : A → B) (from : P → Option (List (Option A))) (own : Q → Option (List (Option A)))
    (IsCut IsCutBy : Type 0) (left right : List (Option A)) (s t : P) (p q : Q) (old new : List R) (count : ℕ)
    → FillsFrom (record { view = view; value_of = value_of; from = from }) IsCut left (record { position = s; records = old }) (record { position = t; records = new }) count
    → left ≡ right → own q ≡ from t → (IsCut → IsCutBy) → (t ≡ s → q ≡ p)
    → FillsFrom (record { view = view; value_of = value_of; from = own }) IsCutBy right (record { position = p; records = old }) (record { position = q; records = new }) count
fills-by {P} {Q} {R} {A} {B} view value_of from own IsCut IsCutBy left right s t p q old new count fills is there cut stays =
    subst
    (λ (items : List (Option A)).
    FillsFrom (record { view = view; value_of = value_of; from = own }) IsCutBy items (record { position = p; records = old }) (record { position = q; records = new }) count)
    is
    (record {
      counted = fills.counted;
      filled = fills.filled;
      later = there ∙ fills.later;
      whole = elim fills.whole [ inl why ↦ inl (cut why) | inr all ↦ inr all ];
      stays = λ none. stays (fills.stays none);
    })
