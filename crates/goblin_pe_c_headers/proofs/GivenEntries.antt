-- The entries of a Rich header fill records from an index on.
use Rattle.std.proofs.Common.{ap, Option, ◌≡◌, ◌≢◌, ◌<◌, ◌+◌, ◌%◌, ◌^◌, ℕ, List, length, set, true, false, refl, arith, Some, None, slice_get}
use Rattle.std.proofs.lemmas.Option.{slice_get_within}
use Rattle.goblin_base.specs.declared.error.ErrorOf.TheVariants.{Read}
use Rattle.goblin_base.specs.declared.error.ReadFault.TheVariants.{TooBig}
use Rattle.goblin_pe_head.specs.declared.header.rich.RichMetadata.{RichMetadata}
use Rattle.goblin_pe_c_headers.specs.RichHeaders.{GivesEntriesOf, IsRefusedEntry, entries_from, is_rest, rich_table}
use Rattle.goblin_pe_c_headers.specs.Onward.{rows_given}
use Rattle.goblin_pe_c_headers.proofs.Batches.{items-fault, items-refused, done-refused}
use Rattle.goblin_pe_c_headers.proofs.GivenOnward.{AtIndex, index-end, index-more}
use Rattle.goblin_pe_c_headers.proofs.RichEntries.{entries, entries_count, entries_more, entries_none, entries_rest}

-- the records hold the entries up to an index
abbrev pub AtEntry : ℕ → List ℕ → ℕ → List RichMetadata → ℕ → List RichMetadata → ℕ → Type 0
AtEntry key stretch from old = AtIndex (rich_table key stretch) (entries_from key stretch) (λ n. from + n) from old

module _ (key : ℕ) (stretch : List ℕ) {from : ℕ} {old : List RichMetadata} {index : ℕ} {records : List RichMetadata} {count : ℕ} (h : AtEntry key stretch from old index records count) where
  -- the index after that of an entry is one in 64 bits
  pub entry-next : (next : ℕ) (e : RichMetadata) → length stretch < 2 ^ 63 → slice_get (entries key stretch) index ≡ Some e → next ≡ (index + 1) % 2 ^ 64
      → count < length records → AtEntry key stretch from old next (set records count e) (count + 1)
  entry-next next e short there place room =
      let within = slice_get_within (entries key stretch) index e there in
      let after : next ≡ index + 1 = omega (arith, within, short, place, entries_count key stretch) in
      let moved = h.moved in
      rw after (index-more h e (index + 1) e (entries_more key stretch index e there) refl (omega (arith, moved)) room refl)

  -- nothing is left
  pub entry-end : slice_get (entries key stretch) index ≡ None → is_rest stretch index ≡ false → count < length records
      → GivesEntriesOf key stretch (record { position = from; records = old }) (record { position = index; records = records }) (rows_given count true)
  entry-end none ended within =
      let left = entries_none key stretch index none ended in
      index-end h left (ap (λ (items : List (Option RichMetadata)). Some items) left) within

  -- bytes are left that are no entry, after some
  pub entry-rest : is_rest stretch index ≡ true → count ≢ 0
      → GivesEntriesOf key stretch (record { position = from; records = old }) (record { position = index; records = records }) (rows_given count false)
  entry-rest is some =
      let left = entries_rest key stretch index is in
      (items-refused h.at left some, (done-refused h.at left, (h.moved, (refl, refl))))

  -- or at once
  pub entry-fault : is_rest stretch index ≡ true → count ≡ 0 → count < length records
      → IsRefusedEntry key stretch (record { position = from; records = old }) (Read TooBig) × (records ≡ old)
  entry-fault is none within =
      let fault = items-fault h.at (entries_rest key stretch index is) none within in
      ((fault.1, fault.0, refl), fault.4)
