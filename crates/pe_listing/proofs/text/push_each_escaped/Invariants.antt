use Rattle.std.proofs.Common.{◌≡◌, ◌++◌, string_bytes, take}
use Rattle.pe_listing.specs.Text.{escaped}
use Rattle.pe_listing.proofs.text.push_each_escaped.Given as goal

abbrev pub invariant-escaping : goal.invariant-escaping
invariant-escaping l = string_bytes l.text ≡ string_bytes l.initial.text ++ escaped (take l.byte-index l.name)
