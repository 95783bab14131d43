-- The slots that are ahead in a table, and a budget of steps: each step looks at one slot.
use Rattle.std.specs.Prelude.{◌≡◌, ◌<◌, ◌≤◌, ℕ, ◌+◌, ◌-◌, List, ⊤}
use Rattle.std.specs.Prelude.{Option, Some, None, option_map, Result, Ok, Err}
use Rattle.goblin_base.specs.{declared.error.ErrorOf.ErrorOf, Tables.Format, Tables.stop}
use Rattle.readings.specs.Walks.{GivesNext}
use Rattle.goblin_pe_import.specs.ImportEntries.{EntryValue, entry_slots}
use Rattle.goblin_pe_import.specs.TableSums.{amount_of}

-- how many slots a table has before its stop, from the one at a place on; none without a place
abbrev pub slots_ahead : Format EntryValue → List ℕ → Option ℕ → ℕ
slots_ahead format bytes place = amount_of (stop (entry_slots format) bytes) place

-- what is left of a budget after a number of steps
abbrev pub spent : Option ℕ → ℕ → Option ℕ
spent steps n = option_map (λ left. left - n) steps

-- The budget has steps left, as it always has without a limit. Or it has run out.
abbrev pub HasSteps : Option ℕ → Type 0
HasSteps None = ⊤
HasSteps (Some left) = 1 ≤ left

abbrev pub IsOut : Option ℕ → Type 0
IsOut None = ⊥
IsOut (Some left) = left ≡ 0

-- The budget has not grown. A call without a limit leaves none.
abbrev pub HasNotGrown : Option ℕ → Option ℕ → Type 0
HasNotGrown None new = new ≡ None
HasNotGrown (Some a) None = ⊥
HasNotGrown (Some a) (Some b) = b ≤ a

-- The budget has fallen by as many steps as are no longer ahead.
abbrev pub AreCounted : Option ℕ → Option ℕ → ℕ → ℕ → Type 0
AreCounted None new before after = new ≡ None
AreCounted (Some a) None before after = ⊥
AreCounted (Some a) (Some b) before after = before + b ≡ after + a

-- A refused call has taken at least one step, and at most those that were ahead and the look that
-- is refused.
abbrev pub HasRefused : Option ℕ → Option ℕ → ℕ → Type 0
HasRefused None new before = new ≡ None
HasRefused (Some a) None before = ⊥
HasRefused (Some a) (Some b) before = (b < a) × (a ≤ b + before + 1)

-- What a call has looked at.
abbrev pub LooksAt : {X : Type 0} → Option (Result X ErrorOf) → Option ℕ → Option ℕ → ℕ → ℕ
    → Type 0
LooksAt None old new before after = AreCounted old new before after
LooksAt (Some (Ok x)) old new before after = AreCounted old new before after
LooksAt (Some (Err e)) old new before after = HasRefused old new before

-- A call gives what comes next, as `GivesNext` says. Or it gives nothing, and the same is still to
-- come.
abbrev pub GivesWithin : {S X A : Type 0} → (X → A) → (S → List (Option A))
    → (S → ErrorOf → Type 0) → S → Option (Result X ErrorOf) → S → Type 0
GivesWithin view left IsCause s None t =
    (left s ≡ left t) × ((e : ErrorOf) → IsCause t e → IsCause s e)
GivesWithin view left IsCause s (Some r) t = GivesNext view left IsCause s (Some r) t

-- This holds if a call is not refused.
abbrev pub UnlessErr : {X : Type 0} → Option (Result X ErrorOf) → Type 0 → Type 0
UnlessErr None Holds = Holds
UnlessErr (Some (Ok x)) Holds = Holds
UnlessErr (Some (Err e)) Holds = ⊤
