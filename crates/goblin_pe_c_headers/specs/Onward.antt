-- What a call gives of a table from a position on: as many of its items as there is room for, or
-- fewer where it is cut.
use Rattle.std.specs.Prelude.{◌≡◌, ◌⊎◌, ℕ, ◌+◌, ◌<◌, ◌≤◌, ⊤, List, [], ◌∷◌, map, take, drop, length}
use Rattle.std.specs.Prelude.{min, Bool, true, false, Option, Some, None, IsSomeAnd}
use Rattle.goblin_base.specs.{declared.error.ErrorOf.ErrorOf, Answers.FirstFault, Reading.Reading}
use Rattle.goblin_pe_c_headers.specs.Filled.{Filled}
pub use Rattle.goblin_pe_c_headers.specs.declared.batch.PeBatch.{PeBatch}

-- what a caller passes, to be gone on with
pub record Batch (P R : Type 0) : Type 0 where
  pub position : P
  pub records : List R

-- what a call says with these numbers; and one that counts its records alone
abbrev pub batch_of : ℕ → ℕ → ℕ → Bool → PeBatch
batch_of count skipped unmapped is_done = record {
  count = count;
  skipped = skipped;
  unmapped = unmapped;
  is_done = is_done;
  reserved = 0 ∷ 0 ∷ 0 ∷ 0 ∷ 0 ∷ 0 ∷ 0 ∷ [];
}

abbrev pub rows_given : ℕ → Bool → PeBatch
rows_given count is_done = batch_of count 0 0 is_done

abbrev pub CountsRows : PeBatch → Type 0
CountsRows batch = (batch.skipped ≡ 0) × (batch.unmapped ≡ 0)

-- records that are filled from a position on
abbrev pub batch_at : {P R : Type 0} → P → List R → Batch P R
batch_at position records = record { position = position; records = records }

-- A table that comes in batches: what contracts see of a record, the value of an item, and the
-- items that come from a position on, `None` in place of one that is refused. Nothing is there
-- where what leads to the items is refused.
pub record Table (P R A B : Type 0) : Type 0 where
  pub view : R → B
  pub value_of : A → B
  pub from : P → Option (List (Option A))

-- items, none of them refused
abbrev pub unrefused : {A : Type 0} → List A → List (Option A)
unrefused items = map (λ x. Some x) items

-- the values up to the first refusal
unfoldable pub values_before : {A : Type 0} → List (Option A) → List A
values_before [] = []
values_before (Some x ∷ items) = x ∷ values_before items
values_before (None ∷ items) = []

abbrev pub IsRefusedNext : {A : Type 0} → List (Option A) → Type 0
IsRefusedNext [] = ⊥
IsRefusedNext (Some x ∷ items) = ⊥
IsRefusedNext (None ∷ items) = ⊤

-- The records hold these values so far.
pub record AtBatch {R A B : Type 0} (view : R → B) (value_of : A → B) (old : List R)
    (values : List A)
    (records : List R) (count : ℕ) : Type 0 where
  pub counted : length values ≡ count
  pub filled : Filled view (map value_of values) old records
  pub same : length records ≡ length old
  pub fits : count ≤ length old

-- Of these that are left the records hold those that come first, as far as there is room, and the
-- other records are the caller's own. From the new position on come the other items; without room
-- the position stays. The batch was cut; or there is room for nothing more, or all is given up to a
-- refusal, and the very next is no refusal, if there is room for any.
pub record FillsFrom {P R A B : Type 0} (table : Table P R A B) (IsCut : Type 0)
    (left : List (Option A)) (old new : Batch P R) (count : ℕ) : Type 0 where
  pub counted : count ≡ min (length old.records) (length (take count (values_before left)))
  pub filled : Filled table.view (map table.value_of (take count (values_before left)))
      old.records new.records
  pub later : table.from new.position ≡ Some (drop count left)
  pub whole : IsCut ⊎ ((count ≡ min (length old.records) (length (values_before left)))
      × (IsRefusedNext left → length old.records ≡ 0))
  pub stays : length old.records ≡ 0 → new.position ≡ old.position

-- `is_done` is true only if nothing is left, and there is room. If it is false, there is no more
-- room, or the batch was cut, or what comes next is a refusal.
pub record TellsEnd {A : Type 0} (IsCut : Type 0) (rest : List (Option A)) (room count : ℕ)
    (is_done : Bool) : Type 0 where
  pub ended : is_done ≡ true → rest ≡ []
  pub without_room : room ≡ 0 → is_done ≡ false
  pub goes_on : is_done ≡ false → (room ≤ count) ⊎ IsCut ⊎ IsRefusedNext rest

-- What every batch gives: what comes from the old position on, as above; what it says; and what
-- holds of its table besides, as how the position moves.
abbrev pub FillsNext : {P R A B : Type 0} → Table P R A B → Type 0
    → (List (Option A) → Type 0) → Batch P R → Batch P R → PeBatch → Type 0
FillsNext table IsCut Holds old new batch =
    IsSomeAnd (table.from old.position) (λ left. FillsFrom table IsCut left old new batch.count
    × (TellsEnd IsCut (drop batch.count left) (length old.records) batch.count batch.is_done
    × Holds left))

-- A table in which no entry is skipped or leads nowhere: its batches count records alone.
abbrev pub FillsRows : {P R A B : Type 0} → Table P R A B → Type 0
    → Batch P R → Batch P R → PeBatch → Type 0
FillsRows table Holds old new batch =
    FillsNext table ⊥ (λ left. Holds × CountsRows batch) old new batch

-- What a refused call says: no record, and to stop.
abbrev pub no_batch : PeBatch
no_batch = rows_given 0 true

-- Why a batch is refused if items may be refused: because what leads to them is, or because the
-- very next item is and there is room for it.
abbrev pub IsNextFault : {P R S A : Type 0} → Reading S → List ℕ → (S → List (Option A))
    → (S → ErrorOf → Type 0) → Batch P R → ErrorOf → Type 0
IsNextFault read bytes left IsCause old e =
    FirstFault (read.value bytes) (read.IsCause bytes)
    (λ s e. (0 < length old.records) × IsRefusedNext (left s) × IsCause s e) e

-- ---- lists

-- a list, in which the position of an item is its index; contracts see a row through its view
abbrev pub row_table : {W B : Type 0} → (W → B) → List B → Table ℕ W B B
row_table view items =
    record { view = view; value_of = λ b. b; from = λ i. Some (unrefused (drop i items)) }

-- its items from an index on, and the index of those that come next
abbrev pub GivesRows : {W B : Type 0} → (W → B) → List B → Batch ℕ W → Batch ℕ W → PeBatch → Type 0
GivesRows view items old new batch =
    FillsRows (row_table view items) (new.position ≡ old.position + batch.count) old new batch

abbrev pub GivesOnward : {W : Type 0} → List W → Batch ℕ W → Batch ℕ W → PeBatch → Type 0
GivesOnward items old new batch = GivesRows (λ w. w) items old new batch
