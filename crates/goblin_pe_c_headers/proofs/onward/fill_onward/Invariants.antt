-- The items so far fill the records, and the index is that of the next one.
use Rattle.std.proofs.Common.{◌≡◌, ◌<◌, ◌^◌, ℕ, List, Option, length, slice_get}
use Rattle.goblin_pe_c_headers.proofs.GivenOnward.{AtRow}
use Rattle.goblin_pe_c_headers.proofs.onward.fill_onward.Given as goal

abbrev pub invariant-records : goal.invariant-records
invariant-records g l =
    (items : List g.row.W.Denot) → length items < 2 ^ 64
    → ((index : ℕ) (found : Option g.row.W.Denot) → g.F.Fn.post l.fn.item (index, tt) found
    → found ≡ slice_get items index)
    → AtRow (λ w. w) items l.initial.position l.initial.records l.index l.records l.count
