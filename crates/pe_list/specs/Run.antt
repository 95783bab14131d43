-- How a run ends.
use Rattle.std.specs.Prelude.{ℕ, List, take, ◌<◌, length, Option, Result, Err, ⊤, codes}
use Rattle.std.specs.Io.KnownBytes.{Appends}
use Rattle.goblin_pe.specs.declared.error.ErrorOf.{ErrorOf}
use Rattle.goblin_pe.specs.declared.error.ErrorOf.TheVariants.{Memory}
use Rattle.pe_list.specs.declared.fault.RunFault.{RunFault}
use Rattle.pe_list.specs.declared.fault.RunFault.TheVariants.{Refused, Input, Output}

-- The known bytes grow by a proper prefix of the text.
abbrev pub AppendsPart : Option (List ℕ) → Option (List ℕ) → List ℕ → Type 0
AppendsPart old new text = (n : ℕ) × (n < length text) × Appends old new (take n text)

-- If the run was refused, this holds of the cause.
abbrev pub IfRefused : {T : Type 0} → Result T RunFault → (ErrorOf → Type 0) → Type 0
IfRefused (Err (Refused cause)) P = P cause
IfRefused _ P = ⊤

-- the run was refused with Memory
abbrev pub IsOutOfMemory : RunFault → Type 0
IsOutOfMemory (Refused (Memory e)) = ⊤
IsOutOfMemory _ = ⊥

-- the line on standard error that says why
abbrev pub fault_line : RunFault → List ℕ
fault_line (Refused (Memory e)) = codes "out of memory"
fault_line (Refused _) = codes "refused"
fault_line Input = codes "read failed"
fault_line Output = codes "write failed"
