-- Items that fill records from an index on.
use Rattle.std.proofs.Common.{[], Bool, ◌≡◌, ◌<◌, ◌≤◌, ◌^◌, ◌*◌, ◌/◌, ◌%◌, ℕ, ◌+◌, List, length, map, drop, set, Option, Some, None, slice_get, ◌∷◌, ap, refl, arith, ◌∙◌, inl, inr, slice_range, drop_of_length-le, true, false}
use Rattle.std.specs.List.{range_with_len}
use Rattle.std.proofs.lemmas.List.{drop_more}
use Rattle.std.proofs.lemmas.List.FromFn.{get_or-map-range_with_len, length-map-range_with_len}
use Rattle.std.proofs.lemmas.Option.{get_or_from_slice_get, slice_get_cases, slice_get-get_or, slice_get_past, slice_get_within}
use Rattle.goblin_base.specs.Tables.{records_in}
use Rattle.goblin_base.proofs.RecordItems.{length-records_in}
use Rattle.goblin_pe_c_headers.specs.Onward.{CountsRows, FillsRows, GivesRows, Table, TellsEnd, row_table, rows_given, unrefused}
use Rattle.goblin_pe_c_headers.proofs.Batches.{AtItems, items-end, items-full, items-gives, items-more, items-start, items-stay, done-end, done-full}

-- ---- the items of a list from an index on

pub from-item : {B : Type 0} (items : List B) (i : ℕ) (x : B) → slice_get items i ≡ Some x → drop i items ≡ x ∷ drop (i + 1) items
from-item {B} items i x there =
    drop_more items i x (slice_get_within items i x there) ∙ ap (λ (y : B). y ∷ drop (i + 1) items) (get_or_from_slice_get items i x x there)

pub past-end : {B : Type 0} (items : List B) (i : ℕ) → slice_get items i ≡ None → length items ≤ i
past-end items i none = elim (slice_get_cases items i).1 [
  | inl there ↦ absurd (cc (there.2, none))
  | inr past ↦ past.0
]

-- ---- a loop that fills records

-- the records hold the items up to an index, which their number says
module _ {W A B : Type 0} (table : Table ℕ W A B) (left : ℕ → List (Option A)) (place : ℕ → ℕ) (from : ℕ) (old : List W) where
  pub record AtIndex (index : ℕ) (records : List W) (count : ℕ) : Type 0 where
    pub at : AtItems table left from from old index index records count
    pub moved : index ≡ place count

  pub index-start : table.from from ≡ Some (left from) → from ≡ place 0 → AtIndex from old 0
  index-start begins first = record { at = items-start table left from from old begins; moved = first }

module _ {W A B : Type 0} {table : Table ℕ W A B} {left : ℕ → List (Option A)} {place : ℕ → ℕ} {from : ℕ} {old : List W}
    {index : ℕ} {records : List W} {count : ℕ} (h : AtIndex table left place from old index records count) where
  pub index-more : (x : A) (next : ℕ) (r : W) → left index ≡ Some x ∷ left next → table.from next ≡ Some (left next) → next ≡ place (count + 1)
      → count < length records → table.view r ≡ table.value_of x → AtIndex table left place from old next (set records count r) (count + 1)
  index-more x next r given goes moved room says = record { at = items-more h.at x next next r given room says goes; moved = moved }

  -- what the batch has given
  abbrev pub Gives : ℕ → Bool → Type 0
  Gives n is_done =
      FillsRows table (index ≡ place n) (record { position = from; records = old }) (record { position = index; records = records }) (rows_given n is_done)

  -- where no item is left
  pub index-end : left index ≡ [] → table.from index ≡ Some [] → count < length records → Gives count true
  index-end none goes within =
      items-gives h.at (λ all. TellsEnd ⊥ (drop count all) (length old) count true × ((index ≡ place count) × CountsRows (rows_given count true))) index
      (items-end h.at index none goes (items-stay h.at)) (done-end h.at none within, (h.moved, (refl, refl)))

  -- and where no room is
  pub index-full : (n : ℕ) → n ≡ count → length records ≤ count → Gives n false
  index-full n all full =
      rw all (items-gives h.at (λ all. TellsEnd ⊥ (drop count all) (length old) count false × ((index ≡ place count) × CountsRows (rows_given count false))) index
      (items-full h.at full) (done-full h.at full, (h.moved, (refl, refl))))

-- ---- the items of a list

-- the records hold the items of a list up to an index
abbrev pub AtRow : {W B : Type 0} → (W → B) → List B → ℕ → List W → ℕ → List W → ℕ → Type 0
AtRow view items from old = AtIndex (row_table view items) (λ i. unrefused (drop i items)) (λ n. from + n) from old

pub row-start : {W B : Type 0} (view : W → B) (items : List B) (from : ℕ) (old : List W) → AtRow view items from old from old 0
row-start view items from old = index-start (row_table view items) (λ i. unrefused (drop i items)) (λ n. from + n) from old refl (omega arith)

module _ {W B : Type 0} {view : W → B} {items : List B} {from : ℕ} {old : List W} {index : ℕ} {records : List W} {count : ℕ} (h : AtRow view items from old index records count) where
  pub row-more : (r : W) → slice_get items index ≡ Some (view r) → count < length records → AtRow view items from old (index + 1) (set records count r) (count + 1)
  row-more r there room =
      let moved = h.moved in
      index-more h (view r) (index + 1) r (ap unrefused (from-item items index (view r) there)) refl (omega (arith, moved)) room refl

  -- the index after that of an item is one in 64 bits
  pub row-next : (next : ℕ) (r : W) → length items < 2 ^ 64 → slice_get items index ≡ Some (view r) → next ≡ (index + 1) % 2 ^ 64
      → count < length records → AtRow view items from old next (set records count r) (count + 1)
  row-next next r short there place room =
      let after : next ≡ index + 1 = omega (arith, slice_get_within items index (view r) there, short, place) in
      rw after (row-more r there room)

  pub row-end : slice_get items index ≡ None → count < length records
      → GivesRows view items (record { position = from; records = old }) (record { position = index; records = records }) (rows_given count true)
  row-end none within =
      let no = drop_of_length-le items (past-end items index none) in
      index-end h (ap unrefused no) (ap (λ (xs : List B). Some (unrefused xs)) no) within

-- ---- the records in bytes

-- what is made of each index below a number
module _ {V : Type 0} (own : ℕ → V) (n : ℕ) where
  pub row_inside : (i : ℕ) → i < n → slice_get (map own (range_with_len 0 n)) i ≡ Some (own i)
  row_inside i within =
      let all : List V = map own (range_with_len 0 n) in
      slice_get-get_or all i (own i) (omega (arith, within, length-map-range_with_len own 0 n))
      ∙ ap (λ (s : V). Some s) (get_or-map-range_with_len own 0 n i i (own i) within (omega arith))

  pub row_outside : (i : ℕ) → n ≤ i → slice_get (map own (range_with_len 0 n)) i ≡ None
  row_outside i past = slice_get_past (map own (range_with_len 0 n)) i (omega (arith, past, length-map-range_with_len own 0 n))

module _ {V : Type 0} (w : ℕ) (value : List ℕ → V) (bytes : List ℕ) where
  pub record_inside : (i : ℕ) → i < length bytes / w → slice_get (records_in w value bytes) i ≡ Some (value (slice_range bytes (w * i) (w * i + w)))
  unfolding records_in
  record_inside i within = row_inside (λ (i : ℕ). value (slice_range bytes (w * i) (w * i + w))) (length bytes / w) i within

  pub record_outside : (i : ℕ) → length bytes / w ≤ i → slice_get (records_in w value bytes) i ≡ None
  record_outside i past = slice_get_past (records_in w value bytes) i (omega (arith, past, length-records_in w value bytes))
