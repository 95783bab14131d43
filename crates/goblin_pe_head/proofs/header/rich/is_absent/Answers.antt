use Rattle.std.proofs.Common.{◌+◌, ◌-◌, ◌<◌, ◌==◌, ◌≡◌, ℕ, ap, sym, ◌∙◌, arith, slice_index}
use Rattle.std.proofs.lemmas.Bool.{eqb-true, false_from_ne_true}
use Rattle.goblin_pe_head.specs.RichHeader.{word_at}
use Rattle.goblin_pe_head.proofs.WordPlaces.{length-or, no_zero, stored, zero-or}
use Rattle.goblin_pe_head.proofs.header.rich.is_absent.Goals as goal

pub returns : goal.returns
returns c = record {
  yes = λ none k low high. false_from_ne_true (word_at c.args.bytes.now k == c.args.word) (λ same.
      let i = k - c.args.at in
      let in_lanes : i < 16 = omega (arith, low, high) in
      let byte : (n p : ℕ) → n < 4 → p ≡ k + n → slice_index c.args.bytes.now p ≡ slice_index c.to_le_bytes.result n =
      λ n p few is. ap (slice_index c.args.bytes.now) is ∙ sym (stored c.args.bytes.now c.args.word k n (λ j. (c.type_inv.bytes j).fits) (omega (arith, high, c.requires)) (eqb-true (word_at c.args.bytes.now k) c.args.word same) few) ∙ ap (λ s. slice_index s n) (sym c.to_le_bytes.ensures) in
      let first = c.lanes_under.ensures in
      let second = c.lanes_under-2.ensures in
      let third = c.lanes_under-3.ensures in
      let fourth = c.lanes_under-4.ensures in
      let long = length-or c.lanes_under.result c.lanes_under-2.result first.size second.size in
      let longer = length-or _ c.lanes_under-3.result long third.size in
      let zero = zero-or c.lanes_under.result c.lanes_under-2.result first.size second.size i in_lanes (first.zeros i in_lanes (byte 0 _ (omega arith) (omega (arith, low)))) (second.zeros i in_lanes (byte 1 _ (omega arith) (omega (arith, low)))) in
      let zeros = zero-or _ c.lanes_under-3.result long third.size i in_lanes zero (third.zeros i in_lanes (byte 2 _ (omega arith) (omega (arith, low)))) in
      no_zero _ (length-or _ c.lanes_under-4.result longer fourth.size) (eqb-true _ 0 none) i in_lanes (zero-or _ c.lanes_under-4.result longer fourth.size i in_lanes zeros (fourth.zeros i in_lanes (byte 3 _ (omega arith) (omega (arith, low))))));
}
