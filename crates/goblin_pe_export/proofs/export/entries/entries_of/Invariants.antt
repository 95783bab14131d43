use Rattle.std.proofs.Common.{◌≡◌, List, ℕ, Option, length, take}
use Rattle.std.specs.Prelude.{◌≤◌, slice_get, vec_capacity, vec_len}
use Rattle.goblin_pe_export.proofs.export.entries.entries_of.Given as goal

abbrev pub invariant-entries : goal.invariant-entries
invariant-entries g l =
    ((entries : List g.row.V.Denot) → length entries ≡ l.fn.count
    → ((index : ℕ) (found : Option g.row.V.Denot) → g.F.Fn.post l.fn.entry (index, tt) found
    → found ≡ slice_get entries index)
    → l.entries.items ≡ take l.index entries)
    × (vec_len l.entries ≤ l.index) × (vec_capacity l.entries ≡ l.fn.count)
