-- The name of a library: the text that a reader of names takes, and the empty one where it takes none.
use Rattle.std.proofs.Common.{◌≡◌, ℕ, Bool, true, false, List, [], Option, Some, None, ap, refl, sym, option_map, unwrap_or}
use Rattle.goblin_base.proofs.Steps.{same_value}
use Rattle.readings.specs.Reads.{in_its_place}

or_empty : Option (List ℕ) → Option (List ℕ)
or_empty name = Some (unwrap_or name [])

pub taken : (strict : Bool) (text : Option (List ℕ)) (name : Option (List ℕ))
    → in_its_place strict None (option_map (λ own. Some own) text) ≡ Some name
    → in_its_place strict [] text ≡ Some (unwrap_or name [])
unfolding or_empty
taken strict (Some own) name e = ap or_empty (same_value (Some own) name e)
taken true None name e = absurd cc
taken false None name e = ap or_empty (same_value None name e)

pub missing : (strict : Bool) (text : Option (List ℕ))
    → in_its_place strict None (option_map (λ own. Some own) text) ≡ None
    → in_its_place strict [] text ≡ None
missing strict (Some own) e = absurd cc
missing true None e = refl
missing false None e = absurd cc

-- the text that is taken, or the empty one, is that at the address, or the empty one
pub same_or_empty : (strict : Bool) (text : Option (List ℕ)) (name : Option (List ℕ))
    → in_its_place strict None (option_map (λ own. Some own) text) ≡ Some name
    → unwrap_or name [] ≡ unwrap_or text []
same_or_empty strict (Some own) name e = ap (λ (n : Option (List ℕ)). unwrap_or n []) (sym (same_value (Some own) name e))
same_or_empty true None name e = absurd cc
same_or_empty false None name e = ap (λ (n : Option (List ℕ)). unwrap_or n []) (sym (same_value None name e))
