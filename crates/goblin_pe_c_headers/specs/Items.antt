-- Items whose last one may be a refusal.
use Rattle.std.specs.{Prelude.List, Prelude.map, Prelude.Option, Prelude.Result, Result.result_ok}
use Rattle.goblin_base.specs.declared.error.ErrorOf.{ErrorOf}

-- each refusal without its cause
abbrev pub without_causes : {A : Type 0} → List (Result A ErrorOf) → List (Option A)
without_causes items = map result_ok items
