use Rattle.std.proofs.Common.{◌≡◌, ◌++◌, string_bytes, take, flat_map}
use Rattle.pe_listing.proofs.lines.push_lines.Given as goal

abbrev pub invariant-lines : goal.invariant-lines
invariant-lines g l = string_bytes l.text ≡ string_bytes l.initial.text ++ flat_map g.T.Listed.line (take l.item-index l.items)
