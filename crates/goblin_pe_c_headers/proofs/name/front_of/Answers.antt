use Rattle.std.proofs.Common.{◌≡◌, ◌∙◌, ℕ, ap, arith, sym, take}
use Rattle.goblin_pe_c_headers.specs.Names.{cut_end}
use Rattle.goblin_pe_c_headers.proofs.CutNames.{end-before, end-here}
use Rattle.goblin_pe_c_headers.proofs.name.front_of.Goals as goal

pub returns-then-begins_character : goal.returns-then-begins_character
returns-then-begins_character c =
    let text = c.args.text.now in
    let here = end-here text c.bytes.end (sym c.begins_character.ensures ∙ c.if-begins_character.true) in
    ap (λ (n : ℕ). take n text) (sym (c.bytes.invariant.0 ∙ here))

pub bytes-preserved : goal.bytes-preserved
bytes-preserved c =
    let text = c.args.text.now in
    let before = end-before text c.bytes.end (omega (arith, c.bytes-test.true)) (sym c.begins_character.ensures ∙ c.if-begins_character.false) in
    (c.bytes.invariant.0 ∙ before, omega (arith, c.bytes.invariant.1))

pub returns : goal.returns
unfolding cut_end
returns c =
    let text = c.args.text.now in
    let none : c.bytes.end ≡ 0 = omega (arith, c.bytes-test.false) in
    ap (λ (n : ℕ). take n text) (sym (c.bytes.invariant.0 ∙ ap (cut_end text) none))
