-- A value that may not be there, as it is seen.
use Rattle.std.proofs.Common.{◌≡◌, Bool, true, false, ap, sym, ◌∙◌, Option, option_map}
use Rattle.goblin_pe_c_headers.specs.Found.{Puts}

-- what is put is what is seen of it
pub puts_model : {A B : Type 0} (model : A → B) (result : Bool) (found : Option A) (value : Option B) (old new : A) → Puts (λ (x : A). x) result found old new → option_map model found ≡ value → Puts model result value old new
puts_model model true found value old new puts seen = sym seen ∙ ap (option_map model) puts
puts_model model false found value old new puts seen = (sym seen ∙ ap (option_map model) puts.0, puts.1)
