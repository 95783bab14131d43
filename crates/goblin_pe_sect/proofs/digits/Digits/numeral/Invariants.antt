-- So far all bytes are digits, and the number is theirs.
use Rattle.std.proofs.Common.{◌≡◌, ◌<◌, ◌^◌, map, take, true, nat_lt}
use Rattle.std.specs.List.{list_all}
use Rattle.goblin_pe_sect.specs.Digits.{digit, radix, digits_sum}
use Rattle.goblin_pe_sect.proofs.digits.Digits.numeral.Given as goal

abbrev pub invariant-digits : goal.invariant-digits
invariant-digits l = record {
  all : list_all (λ b. nat_lt (digit l.self b) (radix l.self)) (take l.byte-index l.text) ≡ true;
  number : l.number ≡ digits_sum (radix l.self) (map (digit l.self) (take l.byte-index l.text));
  small : l.number < 64 ^ l.byte-index;
}
