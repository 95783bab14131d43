-- The digits that are left, written here, give the name that is wanted.
use Rattle.std.proofs.Common.{◌-◌, ◌≡◌, ◌≤◌, length}
use Rattle.goblin_pe_sect.proofs.DigitSums.{finished}
use Rattle.goblin_pe_sect.proofs.digits.Digits.write.Given as goal

abbrev pub invariant-digits : goal.invariant-digits
invariant-digits l = record {
  wanted : finished l.self l.from l.at l.rest l.name ≡ finished l.self l.from l.initial.at l.initial.rest l.initial.name;
  begins : l.from ≤ l.at;
  ends : l.at ≤ 8;
  len : length l.name ≡ 8;
}

abbrev pub decreases-digits : goal.decreases-digits
decreases-digits l = l.at - l.from
