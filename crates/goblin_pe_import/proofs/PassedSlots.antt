-- What is passed over of a lookup table, slot by slot.
use Rattle.std.proofs.Common.{◌≡◌, ◌≤◌, ◌+◌, ◌*◌, ◌&&◌, ℕ, if◌then◌else◌, is_some, option_map, Bool, true, false, not, is_none, cond, List, [], ◌∷◌, Option, Some, None, refl, ap, sym, subst, ◌∙◌, arith}
use Rattle.std.specs.Int.{from_bool}
use Rattle.goblin_base.specs.{Bytes.slice_at, Tables.Format, Tables.SlotFormat, Tables.ends_table, Tables.slot_at, Tables.stop}
use Rattle.goblin_base.proofs.SlotTables.{reads}
use Rattle.readings.specs.Reads.{given}
use Rattle.goblin_pe_sect.specs.Addresses.{Addressing}
use Rattle.goblin_pe_import.specs.ImportEntries.{EntryValue, LookupEntry, entry_slots}
use Rattle.goblin_pe_import.specs.ImportLookup.{entry_model, kept_model}
use Rattle.goblin_pe_import.specs.ImportEntries.LookupEntry.{ByOrdinal}
use Rattle.goblin_pe_import.specs.LookupReadings.{kept_entry, kept_name}
use Rattle.goblin_pe_import.specs.declared.import.lookup_table.SyntheticImportLookupTableEntry.{SyntheticImportLookupTableEntry}
use Rattle.goblin_pe_import.specs.Passed.{Count, HasRisen, Passed, as_skipped, count_of, counts, entries_ahead, is_left_out, is_unmapped, risen, table_counts}
use Rattle.goblin_pe_import.specs.Passed.Count.{Skipped, Unmapped}
use Rattle.goblin_pe_import.proofs.SlotSteps.{sum-first, sum-here}
use Rattle.readings.proofs.Walks.{shifted, stop-first, stop-next}

-- ---- a count

pub risen-start : (old n : ℕ) → HasRisen old old n n
risen-start old n = (omega arith, omega arith)

pub risen-then : (old now new before ahead after : ℕ) → HasRisen old now before ahead
    → HasRisen now new ahead after → HasRisen old new before after
risen-then old now new before ahead after h more =
    (omega (arith, h.0, more.0), omega (arith, h.0, h.1, more.0, more.1))

-- by n more
pub risen-by : (old now new before ahead n after : ℕ) → HasRisen old now before ahead
    → ahead ≡ n + after → new ≡ risen now n → HasRisen old new before after
risen-by old now new before ahead n after h is to =
    (omega (arith, h.0, is), omega (arith, h.0, h.1, is, to))

-- as much is ahead as was
pub risen-same : (old now before ahead after : ℕ) → HasRisen old now before ahead → ahead ≡ after
    → HasRisen old now before after
risen-same old now before ahead after h is = subst (HasRisen old now before) is h

-- ---- a table

module _ {V : Type 0} (slots : SlotFormat V) (amount : V → ℕ) (k : Count) (bytes : List ℕ) (o : ℕ)
    (wide : 1 ≤ slots.entry.width) where
  -- how much the slot of the stop counts
  abbrev end_counts : Option V → ℕ
  end_counts end = if is_some end then 0 else as_skipped k

  -- the first slot comes to the others
  pub counts-next : (v : V) → reads slots bytes o ≡ Some v → slots.is_last v ≡ false
      → table_counts slots amount k bytes o
      ≡ amount v + table_counts slots amount k bytes (o + slots.entry.width)
  unfolding table_counts
  counts-next v r going =
      let next = o + slots.entry.width in
      let end : end_counts (slot_at slots bytes o (stop slots bytes o))
      ≡ end_counts (slot_at slots bytes next (stop slots bytes next)) =
      ap (λ (i : ℕ). end_counts (slot_at slots bytes o i)) (stop-next slots bytes o wide v r going)
      ∙ ap (λ (p : ℕ). end_counts (reads slots bytes p))
      (shifted slots bytes o wide v r going (stop slots bytes next)) in
      omega (arith, sum-first slots bytes o wide v r going amount, end)

  -- the table ends here
  pub counts-end : ends_table slots.is_last (reads slots bytes o) ≡ true → (now new : Passed)
      → new.skipped ≡ risen now.skipped (from_bool (not (is_some (slice_at bytes o slots.entry.width))))
      → new.unmapped ≡ now.unmapped → (old before : ℕ)
      → HasRisen old (count_of k now) before (table_counts slots amount k bytes o)
      → HasRisen old (count_of k new) before 0
  unfolding table_counts
  counts-end ends now new skipped unmapped old before h =
      risen-by old (count_of k now) (count_of k new) before (table_counts slots amount k bytes o)
      (end_counts (reads slots bytes o)) 0 h is (more k (slice_at bytes o slots.entry.width) skipped)
    where
      is : table_counts slots amount k bytes o ≡ end_counts (reads slots bytes o) + 0
      is =
          let here : o + slots.entry.width * 0 ≡ o = omega arith in
          let end =
          ap (λ (i : ℕ). end_counts (slot_at slots bytes o i))
          (stop-first slots bytes o wide (reads slots bytes o) refl ends)
          ∙ ap (λ (p : ℕ). end_counts (reads slots bytes p)) here in
          omega (arith, sum-here slots amount bytes o wide (reads slots bytes o) refl ends, end)

      more : (k : Count) (slot : Option (List ℕ))
          → new.skipped ≡ risen now.skipped (from_bool (not (is_some slot)))
          → count_of k new
          ≡ risen (count_of k now)
          (if is_some (option_map slots.entry.value_of slot) then 0 else as_skipped k)
      more Skipped None is = is
      more Skipped (Some x) is = is
      more Unmapped None is = omega (arith, unmapped)
      more Unmapped (Some x) is = omega (arith, unmapped)

-- ---- a slot

module _ (strict : Bool) (format : Format EntryValue) (addressing : Addressing) (bytes : List ℕ) where
  abbrev ahead : Count → Option ℕ → ℕ
  ahead = entries_ahead strict format addressing bytes

  -- an entry that something is kept of leads somewhere
  mapped-kept : (v : EntryValue) (x : LookupEntry)
      → (kept_entry strict addressing v).value bytes ≡ Some (x ∷ [])
      → is_unmapped addressing v ≡ false
  unfolding kept_entry
  mapped-kept v x is = by v.is_ordinal (addressing.offset v.rva) is
    where
      by : (is_ordinal : Bool) (p : Option ℕ)
          → (cond is_ordinal (given (ByOrdinal v.ordinal ∷ []))
          (kept_name strict addressing.longest v.rva (addressing.end v.rva) p)).value bytes
          ≡ Some (x ∷ [])
          → (not is_ordinal && is_none p) ≡ false
      by true p is = refl
      by false None is = absurd cc
      by false (Some p) is = refl

  module _ (place : ℕ) (wide : 1 ≤ format.width) where
    module _ (v : EntryValue) (r : reads (entry_slots format) bytes place ≡ Some v)
        (going : (entry_slots format).is_last v ≡ false)
        (kept : Option SyntheticImportLookupTableEntry)
        (is : (kept_entry strict addressing v).value bytes ≡ Some (kept_model kept)) where
      first : (k : Count)
          → ahead k (Some place)
          ≡ from_bool (counts strict addressing bytes k v) + ahead k (Some (place + format.width))
      first k =
          counts-next (entry_slots format) (λ v. from_bool (counts strict addressing bytes k v)) k bytes place
          wide v r going

      found : (entry : Option SyntheticImportLookupTableEntry) → kept ≡ entry
          → (kept_entry strict addressing v).value bytes ≡ Some (kept_model entry)
      found entry at =
          is ∙ ap (λ (x : Option SyntheticImportLookupTableEntry). Some (kept_model x)) at

      -- an entry that is kept does not count
      pub passed-kept : (entry : SyntheticImportLookupTableEntry) → kept ≡ Some entry → (k : Count)
          → ahead k (Some place) ≡ ahead k (Some (place + format.width))
      passed-kept entry at k = omega (arith, first k, ap from_bool (none k))
        where
          none : (k : Count) → counts strict addressing bytes k v ≡ false
          none Skipped =
              ap (λ (x : Option (List LookupEntry)). is_left_out x && not (is_unmapped addressing v))
              (found (Some entry) at)
          none Unmapped = mapped-kept v (entry_model entry) (found (Some entry) at)

      -- an entry that nothing is kept of counts
      pub passed-skip : kept ≡ None → (k : Count) (now new : Passed)
          → new.skipped ≡ risen now.skipped (from_bool (not (is_unmapped addressing v)))
          → new.unmapped ≡ risen now.unmapped (from_bool (is_unmapped addressing v))
          → (old before : ℕ) → HasRisen old (count_of k now) before (ahead k (Some place))
          → HasRisen old (count_of k new) before (ahead k (Some (place + format.width)))
      passed-skip at k now new skipped unmapped old before h =
          risen-by old (count_of k now) (count_of k new) before (ahead k (Some place))
          (from_bool (counts strict addressing bytes k v)) (ahead k (Some (place + format.width))) h
          (first k) (more k)
        where
          more : (k : Count)
              → count_of k new
              ≡ risen (count_of k now) (from_bool (counts strict addressing bytes k v))
          more Skipped =
              skipped
              ∙ ap
              (λ (x : Option (List LookupEntry)).
              risen now.skipped (from_bool (is_left_out x && not (is_unmapped addressing v))))
              (sym (found None at))
          more Unmapped = unmapped
