-- Walks: items that are returned one at a time. Only the last may be a refusal.
use Rattle.std.specs.Prelude.{◌≡◌, ℕ, Bool, ◌&&◌, not, if◌then◌else◌, List, [], ◌∷◌, ◌++◌, map}
use Rattle.std.specs.Prelude.{Option, Some, None, Result, Ok, Err, option_map, is_some}
use Rattle.goblin_base.specs.{declared.error.ErrorOf.ErrorOf, Answers.all_of}
use Rattle.goblin_base.specs.Reading.{IsRefused, Reading}
use Rattle.goblin_base.specs.Tables.{SlotFormat, concat_below, slot_at, slot_place, stop}

-- ---- what a walk has yet to yield

-- what `item` makes of each thing that is read, or one None if the read is refused
abbrev pub items_of : {A B : Type 0} → (A → B) → Option (List A) → List (Option B)
items_of item None = None ∷ []
items_of item (Some xs) = map (λ x. Some (item x)) xs

-- one None if something is missing
abbrev pub refusal_of : {A B : Type 0} → Option A → List (Option B)
refusal_of None = None ∷ []
refusal_of (Some x) = []

-- the items up to and including the first None
abbrev pub until_refused : {A : Type 0} → List (Option A) → List (Option A)
until_refused [] = []
until_refused (None ∷ items) = None ∷ []
until_refused (Some x ∷ items) = Some x ∷ until_refused items

-- one None if the end of the table is needed and the slot of its stop is not in the file
abbrev pub end_items : {V B : Type 0} → Bool → Option V → List (Option B)
end_items needs_end end = if needs_end && not (is_some end) then None ∷ [] else []

-- the items of a slot; a slot that is not in the file is a refusal, but no such slot lies before
-- the stop
abbrev pub items_at : {V B : Type 0} → (ℕ → V → List (Option B)) → ℕ → Option V → List (Option B)
items_at items place None = None ∷ []
items_at items place (Some entry) = items place entry

-- The walk over a table of slots at o: the items of each slot before the stop, which depend on its
-- place and its entry. The walk ends with the first refusal, or at the stop. The stop itself is a
-- refusal if the end is needed and is not in the file.
unfoldable pub table_walk : {V B : Type 0} → SlotFormat V → Bool → (ℕ → V → List (Option B))
    → List ℕ → ℕ → List (Option B)
table_walk slots needs_end items bytes o =
    until_refused
    (concat_below (λ i. items_at items (slot_place slots o i) (slot_at slots bytes o i))
    (stop slots bytes o)
    ++ end_items needs_end (slot_at slots bytes o (stop slots bytes o)))

-- What a walk yields from a slot of a table on: the items of the slot's entry, and then the later
-- ones. It yields nothing if the entry is the last. If the slot is not in the file, it yields a
-- refusal if the end is needed, else nothing. Only proofs use this definition.
abbrev pub from_slot : {V B : Type 0} → Bool → (V → Bool) → (V → List (Option B))
    → List (Option B) → Option V → List (Option B)
from_slot needs_end is_last items later None = if needs_end then None ∷ [] else []
from_slot needs_end is_last items later (Some entry) =
    if is_last entry then [] else until_refused (items entry ++ later)

-- ---- a walk

-- A call of `next` moved a walk from s to t. `left` is what the walk has yet to yield, and
-- `IsCause` says which causes are true if that has a refusal. A cause that is true after the call
-- is true before it.
abbrev pub GivesNext : {S X A : Type 0} → (X → A) → (S → List (Option A))
    → (S → ErrorOf → Type 0) → S → Option (Result X ErrorOf) → S → Type 0
GivesNext view left IsCause s None t = (left s ≡ []) × (left t ≡ [])
GivesNext view left IsCause s (Some (Ok x)) t =
    (left s ≡ Some (view x) ∷ left t) × ((e : ErrorOf) → IsCause t e → IsCause s e)
GivesNext view left IsCause s (Some (Err e)) t =
    (left s ≡ None ∷ []) × (left t ≡ []) × IsCause s e

-- Collecting a walk gives the reading. If no item is a refusal, `gather` makes the value of the
-- reading from the items. A cause that is true of the walk's refusal is true of the reading.
pub record IsWalkOf {A B : Type 0} (gather : List A → B) (reading : Reading B) (bytes : List ℕ)
    (items : List (Option A)) (IsCause : ErrorOf → Type 0) : Type 0 where
  pub value : option_map gather (all_of items) ≡ reading.value bytes
  pub cause : (e : ErrorOf) → IsCause e → reading.IsCause bytes e

-- A call returns such a walk, or is refused, and then the reading is refused for the same cause.
abbrev pub Walks : {S A B : Type 0} → (S → List (Option A)) → (S → ErrorOf → Type 0)
    → (List A → B) → Result S ErrorOf → Reading B → List ℕ → Type 0
Walks left IsCause gather (Ok walk) reading bytes =
    IsWalkOf gather reading bytes (left walk) (IsCause walk)
Walks left IsCause gather (Err e) reading bytes =
    IsRefused reading bytes e
