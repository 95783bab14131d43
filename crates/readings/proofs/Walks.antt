-- A walk over a table of slots, slot by slot.
use Rattle.std.proofs.Common.{◌≡◌, ◌<◌, ◌≤◌, ◌+◌, ◌*◌, ℕ, zero, suc, Bool, true, false, List, [], ◌∷◌, ◌++◌, map, length, Option, Some, None, refl, sym, ap, subst, ◌∙◌, append-nil, append_assoc, arith, if◌then◌else◌, inl, inr, not, ◌&&◌, IsSomeAnd, is_some}
use Rattle.std.proofs.lemmas.Bool.{cases_Bool}
use Rattle.goblin_base.specs.{declared.error.ErrorOf.ErrorOf, Answers.FirstFault, Answers.◌>>=◌}
use Rattle.goblin_base.specs.{declared.mapped.MappedEnd.MappedEnd, Parts.in_memory}
use Rattle.goblin_base.specs.Reading.{IsRefused, Reading}
use Rattle.goblin_base.specs.Tables.{AreMade, IsTableFault, SlotFormat, concat_below, ends_table, slot_at, slot_place, stop}
use Rattle.goblin_base.proofs.Below.{concat_below-agree, least-before}
use Rattle.goblin_base.proofs.SlotTables.{ends, reads, stop-after, stop-is}
use Rattle.readings.specs.Reads.{table}
use Rattle.readings.proofs.Loops.{read-missing, read-refused, read-start, value_of}
use Rattle.readings.specs.Walks.{end_items, from_slot, items_at, table_walk, until_refused}

-- ---- causes

-- which cause is true if what comes from one slot on is refused
abbrev pub IsSlotCause : {V A : Type 0} → Bool → (V → Bool) → (V → Option A)
    → (IsMissing : ErrorOf → Type 0) → (V → ErrorOf → Type 0) → (IsLater : ErrorOf → Type 0)
    → Option V → ErrorOf → Type 0
IsSlotCause needs_end is_last piece IsMissing IsCause IsLater None e =
    (needs_end ≡ true) × IsMissing e
IsSlotCause needs_end is_last piece IsMissing IsCause IsLater (Some entry) e =
    (is_last entry ≡ false) × FirstFault (piece entry) (IsCause entry) (λ _. IsLater) e

-- ---- lists

pub concat_below-first : {A : Type 0} (piece : ℕ → List A) (n : ℕ)
    → concat_below piece (suc n) ≡ piece 0 ++ concat_below (λ i. piece (suc i)) n
concat_below-first piece zero = sym (append-nil (piece 0))
concat_below-first {A} piece (suc n) =
    ap (λ (xs : List A). xs ++ piece (suc n)) (concat_below-first piece n)
    ∙ append_assoc (piece 0) (concat_below (λ i. piece (suc i)) n) (piece (suc n))

pub until_refused-made : {A B : Type 0} (item : A → B) (xs : List A) (items : List (Option B))
    → until_refused (map (λ x. Some (item x)) xs ++ items)
    ≡ map (λ x. Some (item x)) xs ++ until_refused items
until_refused-made item [] items = refl
until_refused-made {B = B} item (x ∷ xs) items =
    ap (λ (ys : List (Option B)). Some (item x) ∷ ys) (until_refused-made item xs items)

-- items after others may end earlier
pub until_refused-later : {A : Type 0} (xs ys : List (Option A))
    → until_refused (xs ++ until_refused ys) ≡ until_refused (xs ++ ys)
until_refused-later [] [] = refl
until_refused-later [] (None ∷ ys) = refl
until_refused-later {A} [] (Some y ∷ ys) =
    ap (λ (items : List (Option A)). Some y ∷ items) (until_refused-later [] ys)
until_refused-later (None ∷ xs) ys = refl
until_refused-later {A} (Some x ∷ xs) ys =
    ap (λ (items : List (Option A)). Some x ∷ items) (until_refused-later xs ys)

-- ---- what comes from one slot on

module _ {V B : Type 0} (needs_end : Bool) (is_last : V → Bool) (items : V → List (Option B))
    (later : List (Option B)) where
  abbrev from : Option V → List (Option B)
  from entry = from_slot needs_end is_last items later entry

  abbrev end : Bool → List (Option B)
  end needed = if needed then None ∷ [] else []

  abbrev going_on : V → Bool → List (Option B)
  going_on v last = if last then [] else until_refused (items v ++ later)

  pub slot-end : (entry : Option V) → ends_table is_last entry ≡ true
      → (needs_end && not (is_some entry)) ≡ false → from entry ≡ []
  slot-end None z there = unneeded needs_end there
    where
      unneeded : (needed : Bool) → (needed && true) ≡ false → end needed ≡ []
      unneeded true there = absurd cc
      unneeded false there = refl
  slot-end (Some v) z there = ap (going_on v) z

  pub slot-missing : needs_end ≡ true → from None ≡ None ∷ []
  slot-missing m = ap end m

  pub slot-going : (v : V) → is_last v ≡ false
      → from (Some v) ≡ until_refused (items v ++ later)
  slot-going v z = ap (going_on v) z

-- ---- where a table stops, from its first slot on

module _ {V : Type 0} (slots : SlotFormat V) (bytes : List ℕ) (o : ℕ)
    (wide : 1 ≤ slots.entry.width) where
  -- a table that ends at once
  pub stop-first : (end : Option V) → reads slots bytes o ≡ end
      → ends_table slots.is_last end ≡ true → stop slots bytes o ≡ 0
  stop-first end r e =
      let here : o + slots.entry.width * 0 ≡ o = omega arith in
      stop-is slots bytes o 0 wide (λ j below. absurd (omega (arith, below)))
      (ap (λ (p : ℕ). ends_table slots.is_last (reads slots bytes p)) here
      ∙ ap (ends_table slots.is_last) r ∙ e)

  stop-ends : ends slots bytes o (stop slots bytes o) ≡ true
  unfolding stop
  stop-ends =
      let n = stop slots bytes o in
      elim (cases_Bool (ends slots bytes o n)) [
        | inl is ↦ is
        | inr not ↦
            let after : n < n =
            stop-after slots bytes o n wide (least-before (ends slots bytes o) (length bytes))
            not in
            absurd (omega (arith, after))
      ]

module _ {V : Type 0} (slots : SlotFormat V) (bytes : List ℕ) (o : ℕ)
    (wide : 1 ≤ slots.entry.width) (v : V) (r : reads slots bytes o ≡ Some v)
    (going : slots.is_last v ≡ false) where
  pub shifted : (i : ℕ) → slot_place slots o (suc i) ≡ slot_place slots (o + slots.entry.width) i
  shifted i = omega arith

  pub here : slot_at slots bytes o 0 ≡ Some v
  here =
      let at : slot_place slots o 0 ≡ o = omega arith in
      ap (reads slots bytes) at ∙ r

  -- one slot more than from the next one on
  pub stop-next : stop slots bytes o ≡ suc (stop slots bytes (o + slots.entry.width))
  unfolding stop
  stop-next =
      let next = o + slots.entry.width in
      let n = stop slots bytes next in
      let moved : (i : ℕ) → ends slots bytes o (suc i) ≡ ends slots bytes next i = λ i.
      ap (λ (p : ℕ). ends_table slots.is_last (reads slots bytes p)) (shifted i) in
      let first : ends slots bytes o 0 ≡ false = ap (ends_table slots.is_last) here ∙ going in
      stop-is slots bytes o (suc n) wide
      (before first moved n (least-before (ends slots bytes next) (length bytes)))
      (moved n ∙ stop-ends slots bytes next wide)
    where
      before : ends slots bytes o 0 ≡ false
          → ((i : ℕ) → ends slots bytes o (suc i)
          ≡ ends slots bytes (o + slots.entry.width) i)
          → (n : ℕ)
          → ((j : ℕ) → j < n → ends slots bytes (o + slots.entry.width) j ≡ false)
          → (j : ℕ) → j < suc n → ends slots bytes o j ≡ false
      before first moved n later zero below = first
      before first moved n later (suc j) below =
          moved j ∙ later j (omega (arith, below))

-- ---- the walk

module _ {V B : Type 0} (slots : SlotFormat V) (items : ℕ → V → List (Option B)) (bytes : List ℕ)
    (needs_end : Bool) (wide : 1 ≤ slots.entry.width) (o : ℕ) where
  -- what comes from a place on
  abbrev left : ℕ → List (Option B)
  left place = table_walk slots needs_end items bytes place

  abbrev here_at : ℕ → ℕ → List (Option B)
  here_at place i = items_at items (slot_place slots place i) (slot_at slots bytes place i)

  end_once : (needed : Bool) (end : Option V)
      → until_refused {A = B} (end_items needed end) ≡ end_items needed end
  end_once true None = refl
  end_once true (Some v) = refl
  end_once false end = refl

  -- the table stops at once
  at_stop : (end : Option V) → reads slots bytes o ≡ end → ends_table slots.is_last end ≡ true
      → left o ≡ end_items needs_end end
  unfolding table_walk
  at_stop end r e =
      let none = stop-first slots bytes o wide end r e in
      let at : slot_place slots o (stop slots bytes o) ≡ o =
      ap (slot_place slots o) none ∙ omega arith in
      let found : slot_at slots bytes o (stop slots bytes o) ≡ end =
      ap (reads slots bytes) at ∙ r in
      rw (found, none) (end_once needs_end end)

  -- the items of the first slot come first, and then what comes from the next place on
  walk-first : (v : V) → reads slots bytes o ≡ Some v → slots.is_last v ≡ false
      → left o ≡ until_refused (items o v ++ left (o + slots.entry.width))
  unfolding table_walk
  walk-first v r going =
      let next = o + slots.entry.width in
      let n = stop slots bytes next in
      let moved = shifted slots bytes o wide v r going in
      let more = stop-next slots bytes o wide v r going in
      let same : (i : ℕ) → here_at o (suc i) ≡ here_at next i = λ i.
      ap (λ (p : ℕ). items_at items p (reads slots bytes p)) (moved i) in
      let end : slot_at slots bytes o (suc n) ≡ slot_at slots bytes next n =
      ap (reads slots bytes) (moved n) in
      let place : slot_place slots o 0 ≡ o = omega arith in
      let first : here_at o 0 ≡ items o v = rw place (ap (items_at items o) r) in
      let rest = concat_below (here_at next) n ++ end_items needs_end (slot_at slots bytes next n)
      in
      rw (
        more,
        end,
        concat_below-first (here_at o) n,
        concat_below-agree (λ i. here_at o (suc i)) (here_at next) n (λ i below. same i),
        first,
      )
      (ap until_refused (append_assoc (items o v) (concat_below (here_at next) n) _)
      ∙ sym (until_refused-later (items o v) rest))

  last_items : (needed : Bool) (v : V) → end_items {B = B} needed (Some v) ≡ []
  last_items true v = refl
  last_items false v = refl

  no_items : (needed : Bool)
      → end_items {V = V} {B = B} needed None ≡ (if needed then None ∷ [] else [])
  no_items true = refl
  no_items false = refl

  -- what comes from a slot on, by the entry there
  pub walk-slot : (entry : Option V) → reads slots bytes o ≡ entry
      → left o
      ≡ from_slot needs_end slots.is_last (items o) (left (o + slots.entry.width)) entry
  walk-slot None r = at_stop None r refl ∙ no_items needs_end
  walk-slot (Some v) r = by_last (slots.is_last v) refl
    where
      by_last : (last : Bool) → slots.is_last v ≡ last
          → left o
          ≡ if last then [] else until_refused (items o v ++ left (o + slots.entry.width))
      by_last true z = at_stop (Some v) r z ∙ last_items needs_end v
      by_last false z = walk-first v r z

-- ---- which cause is true of what is left

module _ {V A : Type 0} (end : Option MappedEnd) (slots : SlotFormat V)
    (piece : V → Reading (List A)) (bytes : List ℕ) (needs_end : Bool)
    (missing : ℕ → Reading V) (wide : 1 ≤ slots.entry.width) (o : ℕ) where
  abbrev part : List ℕ
  part = in_memory end bytes

  -- the rest of the table, as a table
  abbrev rest : ℕ → Reading (List A)
  rest place = table end slots needs_end missing piece place

  cause-missing : (e : ErrorOf) → reads slots part o ≡ None → needs_end ≡ true
      → (missing o).IsCause part e → (rest o).IsCause bytes e
  cause-missing e r m fault =
      (read-missing end slots piece bytes o o [] (read-start end slots piece bytes o wide) needs_end
      missing e r m fault).1

  module _ (v : V) (r : reads slots part o ≡ Some v) (going : slots.is_last v ≡ false) where
    cause-refused : (e : ErrorOf)
        → IsRefused (piece v) bytes e → (rest o).IsCause bytes e
    cause-refused e k =
        (read-refused end slots piece bytes o o [] (read-start end slots piece bytes o wide) needs_end
        missing v e r going k).1

    abbrev IsMissing : ℕ → ErrorOf → Type 0
    IsMissing p = (missing p).IsCause part

    abbrev IsPiece : V → ErrorOf → Type 0
    IsPiece w = (piece w).IsCause bytes

    -- slot i + 1 of a table is slot i of the table that begins a slot later
    place_after : (i : ℕ) → slot_place slots o (suc i) ≡ slot_place slots (o + slots.entry.width) i
    place_after = shifted slots part o wide v r going

    all_made : (xs : List A) → (piece v).value bytes ≡ Some xs → (n : ℕ)
        → AreMade slots (value_of piece bytes) part (o + slots.entry.width) n
        → AreMade slots (value_of piece bytes) part o (suc n)
    all_made xs k n later zero below none =
        let at = here slots part o wide v r going in
        let made = ap (λ s. s >>= value_of piece bytes) at ∙ k in
        absurd (cc (made, none))
    all_made xs k n later (suc j) below none =
        later j (omega (arith, below))
        (ap (λ (p : ℕ). reads slots part p >>= value_of piece bytes) (sym (place_after j)) ∙ none)

    -- a cause that is true of the rest of a table from its next slot on is true of it here
    cause-next : (xs : List A) → (piece v).value bytes ≡ Some xs → (e : ErrorOf)
        → (rest (o + slots.entry.width)).IsCause bytes e → (rest o).IsCause bytes e
    cause-next xs k e fault =
        let later = o + slots.entry.width in
        let n = stop slots part later in
        let stops = stop-next slots part o wide v r going in
        let in_place : (i : ℕ) → reads slots part (slot_place slots o (suc i)) ≡ slot_at slots part later i = λ i.
        ap (reads slots part) (place_after i) in
        let whole : IsTableFault slots needs_end (value_of piece bytes) IsMissing IsPiece part o e =
        elim fault [
          | inl end ↦
              inl (
                subst (AreMade slots (value_of piece bytes) part o) (sym stops) (all_made xs k n end.0),
                subst (λ (s : ℕ). (needs_end ≡ true) × (slot_at slots part o s ≡ None) × IsMissing (slot_place slots o s) e) (sym stops)
                    (end.1.0, in_place n ∙ end.1.1, subst (λ (p : ℕ). IsMissing p e) (sym (place_after n)) end.1.2),
              )
          | inr at ↦
              inr (
                suc at.0,
                omega (arith, stops, at.1),
                all_made xs k at.0 at.2,
                subst (λ (s : Option V). IsSomeAnd s (λ w. (value_of piece bytes w ≡ None) × IsPiece w e)) (sym (in_place at.0)) at.3,
              )
        ] in
        whole

  -- a cause that is true from this slot on is one of the table
  pub cause-slot : (entry : Option V) → reads slots part o ≡ entry → (e : ErrorOf)
      → IsSlotCause needs_end slots.is_last (λ v. (piece v).value bytes)
      ((missing o).IsCause part) (λ v. (piece v).IsCause bytes)
      ((rest (o + slots.entry.width)).IsCause bytes) entry e
      → (rest o).IsCause bytes e
  cause-slot None r e fault = cause-missing e r fault.0 fault.1
  cause-slot (Some v) r e fault = by_value ((piece v).value bytes) refl fault.1
    where
      by_value : (value : Option (List A)) → (piece v).value bytes ≡ value
          → FirstFault value ((piece v).IsCause bytes)
          (λ _. (rest (o + slots.entry.width)).IsCause bytes) e
          → (rest o).IsCause bytes e
      by_value None is here = cause-refused v r fault.0 e (is, here)
      by_value (Some xs) is later = cause-next v r fault.0 xs is e later
