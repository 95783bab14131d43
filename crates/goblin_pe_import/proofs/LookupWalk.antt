-- The loop that looks for the next entry that a lookup table keeps.
use Rattle.std.proofs.Common.{◌≡◌, ◌⊎◌, inl, inr, ◌≤◌, ◌+◌, ◌-◌, ◌/◌, ℕ, Bool, true, false, List, [], ◌∷◌, ◌++◌, map, Option, Some, None, Result, Ok, Err, refl, ap, sym, subst, ◌∙◌, ◌*◌, arith, length, not, ◌&&◌, IfSome, IsSome, option_map, is_some}
use Rattle.std.proofs.{lemmas.List.length-map, lemmas.List.map-append, Math.Nat.mul-div_cancel_left}
use Rattle.goblin_base.specs.{declared.error.ErrorOf.ErrorOf, Reading.IsRefused}
use Rattle.goblin_base.specs.Answers.{◌>>=◌, all_of}
use Rattle.goblin_base.specs.Tables.{Format, SlotFormat, concat_below, kept_slots, made_of, slot_at, slot_place, slot_table, ends_table, stop}
use Rattle.goblin_base.proofs.{Below.concat_below-agree, SlotTables.reads, Steps.step}
use Rattle.goblin_pe_import.specs.ImportEntries.{EntryValue, LookupEntry, entry_slots}
use Rattle.goblin_pe_import.specs.declared.import.lookup_table.SyntheticImportLookupTableEntry.{SyntheticImportLookupTableEntry}
use Rattle.goblin_pe_import.specs.KeptEntries.{KeptEntry, IsEntriesCause, KeptValue, entries_from, entry_items, kept_at, kept_value, place_after}
use Rattle.goblin_pe_import.specs.ImportLookup.{entry_model, kept_model}
use Rattle.goblin_pe_import.specs.Steps.{GivesWithin, IsOut, LooksAt}
use Rattle.readings.specs.Walks.{GivesNext, IsWalkOf, from_slot, end_items, items_at, items_of, table_walk, until_refused}
use Rattle.readings.proofs.Walked.{AtWalk, walk-all, walk-fault, walk-more}
use Rattle.goblin_pe_import.specs.LookupReadings.{kept_entry, lookup_entry_at, lookup_with_slots}
use Rattle.goblin_pe_import.proofs.{ImportBound.kept_entry-few, PermissiveReads.entry-there}
use Rattle.readings.proofs.WalkValues.{walk-value}
use Rattle.readings.proofs.Walks.{IsSlotCause, cause-slot, slot-end, slot-going, slot-missing, until_refused-later, until_refused-made, walk-slot}
use Rattle.goblin_pe_sect.specs.Addresses.{Addressing}

-- the kept entries, and the indexes of their slots
abbrev pub in_two : List KeptValue → List LookupEntry × List ℕ
in_two kept = (map (λ k. k.entry) kept, map (λ k. k.slot) kept)

pub in_slot : (width o i : ℕ) → 1 ≤ width → (o + width * i - o) / width ≡ i
in_slot width o i wide =
    let distance : o + width * i - o ≡ width * i = omega arith in
    ap (λ (n : ℕ). n / width) distance ∙ mul-div_cancel_left i (omega (arith, wide))

module _ (strict : Bool) (format : Format EntryValue) (addressing : Addressing)
    (bytes : List ℕ) (o : ℕ) where
  -- what comes from a place on, and none without a place
  abbrev comes : Option ℕ → List (Option KeptValue)
  comes = entries_from strict format addressing bytes o

  abbrev from : ℕ → List (Option KeptValue)
  from place = comes (Some place)

  -- nothing comes once the walk has ended
  abbrev HasEnded : Type 0
  HasEnded = comes None ≡ []

  abbrev items : ℕ → EntryValue → List (Option KeptValue)
  items = entry_items strict format addressing bytes o

  abbrev IsCause : Option ℕ → ErrorOf → Type 0
  IsCause = IsEntriesCause strict format addressing bytes

  -- nothing is kept of the slots from the one at `start` up to the one at `place`
  pub record AtRest (start : Option ℕ) (place : ℕ) : Type 0 where
    pub past : IfSome start (λ s. s ≤ place)
    pub same : comes start ≡ from place
    pub cause : (e : ErrorOf) → IsCause (Some place) e → IsCause start e

  pub rest-start : (start : Option ℕ) (place : ℕ) → start ≡ Some place → AtRest start place
  rest-start start place is = rw is
      (record { past = omega arith; same = refl; cause = λ e fault. fault })

  -- without a limit a call that gives nothing is at the end
  pub kept-unlimited : (start place : Option ℕ) (r : Option (Result KeptEntry ErrorOf))
      (steps : Option ℕ) (before after : ℕ) → GivesWithin kept_value comes IsCause start r place
      → LooksAt r None steps before after
      → (r ≡ None → (place ≡ None) ⊎ IsOut steps)
      → IfSome r (λ r. place ≡ place_after format.width (Some r))
      → GivesNext kept_value comes IsCause start r (place_after format.width r)
  unfolding entries_from
  kept-unlimited start place None steps before after given counted ended at =
      elim (ended refl) [
        | inl none ↦ (given.0 ∙ ap comes none, refl)
        | inr out ↦ absurd (subst IsOut counted out)
      ]
  kept-unlimited start place (Some r) steps before after given counted ended at =
      subst (λ (place : Option ℕ). GivesNext kept_value comes IsCause start (Some r) place) at given

  module _ (start : Option ℕ) (place : ℕ) (h : AtRest start place) (wide : 1 ≤ format.width) where
    abbrev slots : SlotFormat EntryValue
    slots = entry_slots format

    -- what comes from the slot at `place` on
    by_slot : (entry : Option EntryValue) → reads slots bytes place ≡ entry
        → comes start
        ≡ from_slot strict slots.is_last (items place) (from (place + format.width)) entry
    unfolding entries_from
    by_slot entry r = h.same ∙ walk-slot slots items bytes strict wide place entry r

    -- which cause is true from there on
    by_cause : (entry : Option EntryValue) → reads slots bytes place ≡ entry → (e : ErrorOf)
        → IsSlotCause strict slots.is_last (λ v. (kept_entry strict addressing v).value bytes)
        ((lookup_entry_at format place).IsCause bytes)
        (λ v. (kept_entry strict addressing v).IsCause bytes) (IsCause (Some (place + format.width)))
        entry e
        → IsCause start e
    by_cause entry r e fault =
        h.cause e
        (cause-slot None slots (kept_entry strict addressing) bytes strict (lookup_entry_at format) wide
        place entry r e fault)

    pub rest-end : (entry : Option EntryValue) → reads slots bytes place ≡ entry
        → ends_table slots.is_last entry ≡ true → (strict && not (is_some entry)) ≡ false
        → (comes start ≡ []) × HasEnded
    unfolding entries_from
    rest-end entry r z there =
        (by_slot entry r ∙ slot-end strict slots.is_last (items place) (from (place + format.width)) entry z there, refl)

    pub rest-missing : (e : ErrorOf) → reads slots bytes place ≡ None → strict ≡ true
        → (lookup_entry_at format place).IsCause bytes e
        → (comes start ≡ None ∷ []) × HasEnded × IsCause start e
    unfolding entries_from
    rest-missing e r m fault = (
      by_slot None r ∙ slot-missing strict slots.is_last (items place) (from (place + format.width)) m,
      refl,
      by_cause None r e (m, fault),
    )

    module _ (v : EntryValue) (r : reads slots bytes place ≡ Some v)
        (going : slots.is_last v ≡ false) where
      first : (made : Option (List LookupEntry))
          → (kept_entry strict addressing v).value bytes ≡ made
          → comes start
          ≡ until_refused
          (items_of (kept_at format.width o place) made ++ from (place + format.width))
      first made is =
          by_slot (Some v) r ∙ slot-going strict slots.is_last (items place) (from (place + format.width)) v going
          ∙ ap
          (λ (made : Option (List LookupEntry)). until_refused
          (items_of (kept_at format.width o place) made ++ from (place + format.width)))
          is

      pub rest-refused : (e : ErrorOf)
          → IsRefused (kept_entry strict addressing v) bytes e
          → (comes start ≡ None ∷ []) × HasEnded × IsCause start e
      unfolding entries_from
      rest-refused e k =
          (first None k.0, refl, by_cause (Some v) r e (going, rw (k.0) (k.1)))

      pub rest-next : (xs : List LookupEntry)
          → (kept_entry strict addressing v).value bytes ≡ Some xs
          → (comes start
          ≡ map (λ x. Some (kept_at format.width o place x)) xs ++ from (place + format.width))
          × ((e : ErrorOf) → IsCause (Some (place + format.width)) e → IsCause start e)
      unfolding entries_from table_walk
      rest-next xs k = (
        first (Some xs) k ∙ until_refused-made (kept_at format.width o place) xs _
            ∙ ap
            (λ (later : List (Option KeptValue)).
            map (λ x. Some (kept_at format.width o place x)) xs ++ later)
            (until_refused-later [] _),
        λ e fault. by_cause (Some v) r e (going, rw k fault),
      )

      module _ (kept : Option SyntheticImportLookupTableEntry)
          (k : (kept_entry strict addressing v).value bytes ≡ Some (kept_model kept)) where
        read : (found : Option SyntheticImportLookupTableEntry) → kept ≡ found
            → (kept_entry strict addressing v).value bytes ≡ Some (kept_model found)
        read found is = k ∙ ap (λ (x : Option SyntheticImportLookupTableEntry). Some (kept_model x)) is

        -- nothing is kept of the slot at `place`
        pub rest-skip : kept ≡ None → AtRest start (place + format.width)
        rest-skip none =
            let both = rest-next [] (read None none) in
            record { past = further start h.past; same = both.0; cause = both.1 }
          where
            further : (start : Option ℕ) → IfSome start (λ s. s ≤ place)
                → IfSome start (λ s. s ≤ place + format.width)
            further None past = past
            further (Some s) past = omega (arith, past)

        -- an entry is kept
        pub rest-kept : (entry : SyntheticImportLookupTableEntry) → kept ≡ Some entry
            → (comes start
            ≡ Some (kept_at format.width o place (entry_model entry)) ∷ from (place + format.width))
            × ((e : ErrorOf) → IsCause (Some (place + format.width)) e → IsCause start e)
        rest-kept entry is = rest-next (entry_model entry ∷ []) (read (Some entry) is)

  -- ---- the whole table, from its first slot on

  abbrev piece : EntryValue → Option (List LookupEntry)
  piece v = (kept_entry strict addressing v).value bytes

  abbrev made : ℕ → Option (List LookupEntry)
  made = made_of (entry_slots format) piece bytes o

  abbrev item : ℕ → LookupEntry → KeptValue
  item i = kept_at format.width o (slot_place (entry_slots format) o i)

  abbrev n : ℕ
  n = stop (entry_slots format) bytes o

  in_file : (place : ℕ) (slot : Option EntryValue)
      → items_at (entry_items strict format addressing bytes o) place slot
      ≡ items_of (kept_at format.width o place) (slot >>= piece)
  in_file place None = refl
  in_file place (Some v) = refl

  -- the walk from the table's first slot on, by the index of each slot
  pub by_index : entries_from strict format addressing bytes o (Some o)
      ≡ until_refused
      (concat_below (λ i. items_of (item i) (made i)) n
      ++ end_items strict (slot_at (entry_slots format) bytes o n))
  unfolding entries_from table_walk
  by_index =
      let slots = entry_slots format in
      ap
      (λ (items : List (Option KeptValue)). until_refused
      (items ++ end_items strict (slot_at slots bytes o n)))
      (concat_below-agree
      (λ i. items_at (entry_items strict format addressing bytes o) (slot_place slots o i)
      (slot_at slots bytes o i))
      (λ i. items_of (item i) (made i)) n
      (λ i below. in_file (slot_place slots o i) (slot_at slots bytes o i)))

  -- collecting it gives the table with its slots
  pub lookup_walked : 1 ≤ format.width
      → IsWalkOf in_two (lookup_with_slots strict format addressing o) bytes
      (entries_from strict format addressing bytes o (Some o))
      (IsEntriesCause strict format addressing bytes (Some o))
  unfolding slot_table kept_slots
  lookup_walked wide = record {
    value =
        ap (λ (items : List (Option KeptValue)). option_map in_two (all_of items)) by_index
        ∙ walk-value item (λ k. k.entry) (λ k. k.slot) made
        (λ i xs is.
        let s = step (slot_at (entry_slots format) bytes o i) piece xs is in
        kept_entry-few strict addressing bytes s.value xs s.then)
        (λ i x. refl) (λ i x. in_slot format.width o i wide) strict
        (slot_at (entry_slots format) bytes o n) n;
    cause = λ e fault. fault;
  }

  -- ---- the loop that lists the entries

  -- These entries, in these slots, have come of the table at o, and others come from `place` on.
  pub record AtEntries (place : Option ℕ) (entries : List LookupEntry) (rows : List ℕ) : Type 0
    where
      pub wide : 1 ≤ format.width
      pub kept : List KeptValue
      pub at : AtWalk comes IsCause (Some o) place kept
      pub are : entries ≡ map (λ k. k.entry) kept
      pub stand : rows ≡ map (λ k. k.slot) kept

  pub entries-counted : (place : Option ℕ) (entries : List LookupEntry) (rows : List ℕ)
      → AtEntries place entries rows → length entries ≡ length rows
  entries-counted place entries rows h =
      omega (
        arith,
        ap length h.are,
        ap length h.stand,
        length-map h.kept (λ (k : KeptValue). k.entry),
        length-map h.kept (λ (k : KeptValue). k.slot),
      )

  module _ (place : Option ℕ) (entries : List LookupEntry) (rows : List ℕ)
      (h : AtEntries place entries rows) where
    abbrev Steps : Option (Result KeptEntry ErrorOf) → Type 0
    Steps r = GivesNext kept_value comes IsCause place r (place_after format.width r)

    -- all have come
    pub entries-all : Steps None
        → (lookup_with_slots strict format addressing o).value bytes ≡ Some (entries, rows)
    entries-all given =
        sym (lookup_walked h.wide).value
        ∙ ap (option_map in_two) (walk-all comes IsCause (Some o) place h.kept h.at kept_value None given)
        ∙ rw (h.are, h.stand) refl

    module _ (r : Result KeptEntry ErrorOf) (given : Steps (Some r)) where
      -- one is refused
      pub entries-fault : (e : ErrorOf) → r ≡ Err e
          → IsRefused (lookup_with_slots strict format addressing o) bytes e
      entries-fault e is =
          let fault =
          walk-fault comes IsCause (Some o) place h.kept h.at kept_value (place_after format.width (Some r)) r given e is in
          (sym (lookup_walked h.wide).value ∙ ap (option_map in_two) fault.0, (lookup_walked h.wide).cause e fault.1)

      -- one more has come
      module _ (one : KeptEntry) (is : r ≡ Ok one) where
        pub entries-more : AtEntries (Some (one.place + format.width))
            (entries ++ entry_model one.entry ∷ []) (rows ++ one.slot ∷ [])
        entries-more =
            let next = subst (λ (q : Result KeptEntry ErrorOf). Steps (Some q)) is given in
            record {
              wide = h.wide;
              kept = h.kept ++ kept_value one ∷ [];
              at = walk-more comes IsCause (Some o) place h.kept h.at kept_value (Some (one.place + format.width)) one next;
              are = ap (λ (xs : List LookupEntry). xs ++ entry_model one.entry ∷ []) h.are
                  ∙ sym (map-append (λ k. k.entry) h.kept (kept_value one ∷ []));
              stand = ap (λ (xs : List ℕ). xs ++ one.slot ∷ []) h.stand
                  ∙ sym (map-append (λ k. k.slot) h.kept (kept_value one ∷ []));
            }

-- only strict mode refuses an entry
pub refused-strictly : (strict : Bool) (addressing : Addressing) (v : EntryValue)
    (bytes : List ℕ) → (kept_entry strict addressing v).value bytes ≡ None → strict ≡ true
refused-strictly true addressing v bytes none = refl
refused-strictly false addressing v bytes none =
    let never = subst IsSome none (entry-there addressing v bytes) in absurd cc
