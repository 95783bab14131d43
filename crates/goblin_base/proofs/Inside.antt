-- What is reached lies in the file: one lemma for each form of footprint.
use Rattle.std.proofs.Common.{◌≡◌, ◌<◌, ◌≤◌, ◌+◌, ◌*◌, ℕ, zero, suc, min, Bool, true, false, cond, nat_le, nat_lt, Option, Some, None, List, [], ◌∷◌, ◌++◌, length, ap, subst, refl, arith, inl, inr, is_none, All, is_some}
use Rattle.std.proofs.lemmas.Bool.{cases_lt, leb-true, ltb-true}
use Rattle.std.proofs.lemmas.List.Elements.{All-append, All-cons, All-nil}
use Rattle.goblin_base.specs.{Bytes.stretch, Reading.IsInFile}
use Rattle.goblin_base.specs.Footprints.{Range, counted_footprint, led_to, positions, rest_footprint, slice_footprint, slot_footprint, slots_reached, stretch_footprint}
use Rattle.goblin_base.specs.Tables.{Format, SlotFormat, concat_below, ends_table, entry_at, least, slot_at, slot_place, stop, whole_entries}
use Rattle.goblin_base.proofs.{Below.least-before, Records.record_at-some, SlotTables.going}

abbrev pub AreInside : List ℕ → List Range → Type 0
AreInside bytes ranges = All (IsInFile bytes) ranges

is_there : {V : Type 0} (slot : Option V) → is_some slot ≡ true → (v : V) × (slot ≡ Some v)
is_there None e = absurd cc
is_there (Some v) e = (v, refl)

module _ (bytes : List ℕ) where
  pub none-in : AreInside bytes []
  none-in = All-nil (IsInFile bytes)

  pub both-in : (xs ys : List Range) → AreInside bytes xs → AreInside bytes ys
      → AreInside bytes (xs ++ ys)
  both-in xs ys h k = All-append (IsInFile bytes) xs ys h k

  pub if-in : (test : Bool) (xs ys : List Range) → (test ≡ true → AreInside bytes xs)
      → AreInside bytes ys → AreInside bytes (cond test xs ys)
  if-in true xs ys h k = h refl
  if-in false xs ys h k = k

  pub led-in : {A : Type 0} (value : Option A) (leads_to : A → List Range)
      → ((x : A) → AreInside bytes (leads_to x)) → AreInside bytes (led_to value leads_to)
  led-in None leads_to h = none-in
  led-in (Some x) leads_to h = h x

  pub below-in : (piece : ℕ → List Range) (n : ℕ) → ((i : ℕ) → AreInside bytes (piece i))
      → AreInside bytes (concat_below piece n)
  below-in piece zero h = none-in
  below-in piece (suc n) h =
      both-in (concat_below piece n) (piece n) (below-in piece n h) (h n)

  pub positions-in : (begin end : ℕ) → (begin < end → end ≤ length bytes)
      → AreInside bytes (positions begin end)
  unfolding positions
  positions-in begin end fits =
      if-in (nat_lt begin end) ((begin, end) ∷ []) []
      (λ t.
      let some : begin < end = ltb-true begin end t in
      All-cons (IsInFile bytes) (begin, end) [] (some, fits some) none-in)
      none-in

  pub slice-in : (p n : ℕ) → AreInside bytes (slice_footprint bytes p n)
  unfolding slice_footprint
  slice-in p n =
      if-in (nat_le (p + n) (length bytes)) (positions p (p + n)) []
      (λ t. positions-in p (p + n) (λ some. leb-true (p + n) (length bytes) t))
      none-in

  pub stretch-in : (p : ℕ) → AreInside bytes (stretch_footprint bytes p)
  unfolding stretch_footprint
  stretch-in p =
      let end : ℕ = min (length bytes) (p + length (stretch bytes p) + 1) in
      positions-in p end (λ some. omega arith)

  pub rest-in : (p : ℕ) → AreInside bytes (rest_footprint bytes p)
  rest-in p = positions-in p (length bytes) (λ some. omega arith)

  -- ---- tables of slots

  module _ {V : Type 0} (slots : SlotFormat V) (o : ℕ) where
    before_stop : (j : ℕ) → j < stop slots bytes o
        → ends_table slots.is_last (slot_at slots bytes o j) ≡ false
    unfolding stop
    before_stop j lt =
        least-before (λ i. ends_table slots.is_last (slot_at slots bytes o i))
        (length bytes) j lt

    at_stop : (j : ℕ) (end : Bool) → is_some (slot_at slots bytes o (stop slots bytes o)) ≡ end
        → stop slots bytes o ≤ j
        → j < cond end (suc (stop slots bytes o)) (stop slots bytes o)
        → is_some (slot_at slots bytes o j) ≡ true
    at_stop j true e past lt =
        let here : stop slots bytes o ≡ j = omega (arith, past, lt) in
        subst (λ (k : ℕ). is_some (slot_at slots bytes o k) ≡ true) here e
    at_stop j false e past lt = absurd (omega (arith, past, lt))

    reached_there : (j : ℕ) → j < slots_reached slots bytes o
        → is_some (slot_at slots bytes o j) ≡ true
    unfolding slots_reached
    reached_there j lt =
        let last : Bool = is_some (slot_at slots bytes o (stop slots bytes o)) in
        elim (cases_lt j (stop slots bytes o)) [
          | inl before ↦
              ap is_some (going slots.is_last (slot_at slots bytes o j) (before_stop j before)).1
          | inr past ↦ at_stop j last refl past lt
        ]

    slots_fit : (n : ℕ) → ((j : ℕ) → j < n → is_some (slot_at slots bytes o j) ≡ true)
        → o < slot_place slots o n → slot_place slots o n ≤ length bytes
    slots_fit zero there some = absurd (omega (arith, some))
    slots_fit (suc n) there some =
        let last = is_there (slot_at slots bytes o n) (there n (omega arith)) in
        let is =
        record_at-some slots.entry.width slots.entry.value_of bytes (slot_place slots o n)
        last.0 last.1 in
        omega (arith, is.end)

    pub slots-own-in : AreInside bytes (positions o (slot_place slots o (slots_reached slots bytes o)))
    slots-own-in = positions-in o (slot_place slots o (slots_reached slots bytes o)) (slots_fit (slots_reached slots bytes o) reached_there)

    pub slots-in : (leads_to : V → List Range) → ((v : V) → AreInside bytes (leads_to v))
        → AreInside bytes (slot_footprint slots leads_to bytes o)
    unfolding slot_footprint
    slots-in leads_to h =
        let leads = λ (i : ℕ). led_to (slot_at slots bytes o i) leads_to in
        let n = slots_reached slots bytes o in
        both-in (concat_below leads (stop slots bytes o)) (positions o (slot_place slots o n))
        (below-in leads (stop slots bytes o)
        (λ i. led-in (slot_at slots bytes o i) leads_to h))
        slots-own-in

  -- ---- tables of a given count

  whole_is : {V : Type 0} (entry : Option V) → is_none entry ≡ false
      → (v : V) × (entry ≡ Some v)
  whole_is None e = absurd cc
  whole_is (Some v) e = (v, refl)

  counted_fits : {V : Type 0} (format : Format V) (o n : ℕ)
      → ((j : ℕ) → j < n → is_none (entry_at format bytes o j) ≡ false)
      → o < o + format.width * n → o + format.width * n ≤ length bytes
  counted_fits format o zero there some = absurd (omega (arith, some))
  counted_fits format o (suc n) there some =
      let last = whole_is (entry_at format bytes o n) (there n (omega arith)) in
      let is =
      record_at-some format.width format.value_of bytes (o + format.width * n)
      last.0 last.1 in
      omega (arith, is.end)

  pub counted-in : {V : Type 0} (format : Format V) (count o : ℕ)
      → AreInside bytes (counted_footprint format count bytes o)
  unfolding whole_entries
  counted-in format count o =
      let missing : ℕ → Bool = λ i. is_none (entry_at format bytes o i) in
      let n = least missing count in
      positions-in o (o + format.width * n)
      (counted_fits format o n (λ j lt. least-before missing count j lt))
