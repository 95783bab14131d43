use Rattle.pe_listing.proofs.Digits.{AreFilled}
use Rattle.pe_listing.proofs.text.fill_digits.Given as goal

abbrev pub invariant-filling : goal.invariant-filling
invariant-filling l = AreFilled l.base l.number l.rest l.start l.places

abbrev pub decreases-filling : goal.decreases-filling
decreases-filling l = l.rest
