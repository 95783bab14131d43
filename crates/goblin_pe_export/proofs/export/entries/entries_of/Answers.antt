use Rattle.std.proofs.Common.{◌≡◌, ◌+◌, ◌++◌, ◌∷◌, [], List, ℕ, Some, ap, arith, sym, take, ◌∙◌, slice_get}
use Rattle.std.proofs.lemmas.List.{take_more}
use Rattle.std.proofs.lemmas.Option.{get_or_from_slice_get, slice_get_within}
use Rattle.goblin_pe_export.proofs.export.entries.entries_of.Goals as goal

-- one entry more
taken-more : {V : Type 0} (entries : List V) (i : ℕ) (found : V) → slice_get entries i ≡ Some found
    → take (i + 1) entries ≡ take i entries ++ found ∷ []
taken-more entries i found h =
    take_more entries i found (slice_get_within entries i found h)
    ∙ ap (λ x. take i entries ++ x ∷ []) (get_or_from_slice_get entries i found found h)

pub entries-preserved : goal.entries-preserved
entries-preserved g c = (
  λ entries long says.
      c.push_reserved.ensures.items
      ∙ ap (λ xs. xs ++ c.in-Some.found ∷ []) (c.entries.invariant.0 entries long says)
      ∙ sym (taken-more entries c.entries.index c.in-Some.found (sym (says _ _ c.in-Some.ensures))),
  omega (arith, c.push_reserved.ensures.len, c.entries.invariant.1),
  c.push_reserved.ensures.capacity ∙ c.entries.invariant.2,
)
