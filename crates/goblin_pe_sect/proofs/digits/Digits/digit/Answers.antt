use Rattle.std.proofs.Common.{ap, ◌∙◌, ℕ, List, ◌==◌, position}
use Rattle.goblin_pe_sect.specs.Digits.{alphabet}
use Rattle.goblin_pe_sect.proofs.DigitSums.{position-place}
use Rattle.goblin_pe_sect.proofs.digits.Digits.digit.Goals as goal

pub returns-clause-value : goal.returns-clause-value
returns-clause-value c =
    let found = c.place.ensures ∙ ap (λ (xs : List ℕ). position (λ b. b == c.args.byte) xs) c.alphabet.ensures in
    rw found (position-place (λ b. b == c.args.byte) (alphabet c.args.self))
