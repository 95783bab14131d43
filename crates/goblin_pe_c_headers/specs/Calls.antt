-- What a call that reads a file reports.
use Rattle.std.specs.Prelude.{◌≡◌, ◌≢◌, List, ℕ, None, IsSomeAnd, Result, Ok, Err}
use Rattle.goblin_base.specs.{declared.error.ErrorOf.ErrorOf, Reading.Reading}
use Rattle.goblin_pe_c_headers.specs.{declared.fault.PeFault.PeFault, Faults.status_of}

-- A call has read the value of a reading, and the records hold it; or there is no value, the cause
-- is true, and everything is unchanged. It takes no memory.
abbrev pub ReadsWithout : {A : Type 0} → Reading A → List ℕ → (A → Type 0) → Type 0
    → Result Unit ErrorOf → Type 0
ReadsWithout reading bytes Says Left (Ok x) = IsSomeAnd (reading.value bytes) Says
ReadsWithout reading bytes Says Left (Err e) =
    (reading.value bytes ≡ None) × reading.IsCause bytes e × Left

-- the numbers are those of an answer for which it holds
abbrev pub Reported : PeFault → (Result Unit ErrorOf → Type 0) → Type 0
Reported status Holds = (r : Result Unit ErrorOf) × (status ≡ status_of r) × Holds r

-- The same of a call that may be refused before it begins, by a fault of its own: all is then as
-- it was.
abbrev pub ReportedAfter : PeFault → PeFault → Type 0 → (Result Unit ErrorOf → Type 0) → Type 0
ReportedAfter refusal status Left Holds =
    (refusal.status ≡ 0 → Reported status Holds)
    × (refusal.status ≢ 0 → (status ≡ refusal) × Left)
