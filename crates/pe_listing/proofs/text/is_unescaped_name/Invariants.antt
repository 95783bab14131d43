use Rattle.std.proofs.Common.{◌≡◌, take}
use Rattle.std.specs.List.{list_all}
use Rattle.pe_listing.specs.Text.{is_unescaped}
use Rattle.pe_listing.proofs.text.is_unescaped_name.Given as goal

abbrev pub invariant-bytes : goal.invariant-bytes
invariant-bytes l = l.unescaped ≡ list_all is_unescaped (take l.byte-index l.name)
