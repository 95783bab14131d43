use Rattle.std.proofs.Common.{◌≡◌, ◌≤◌, ◌++◌, ◌∷◌, [], Some, slice_get, length, arith, rules, eqb, refl}
use Rattle.std.specs.List.{dedup}
use Rattle.std.proofs.{lemmas.List.Filters.dedup_is, lemmas.Option.slice_get_read}
use Rattle.goblin_pe_sect.specs.Mapping.{window_end}
use Rattle.goblin_pe_sect.proofs.Cuts.{cut_from, near_from, cuts_more, cuts_empty}
use Rattle.goblin_pe_sect.proofs.windows.cuts.cuts_of.Goals as goal
use Rattle.goblin_pe_sect.proofs.windows.cuts.cuts_of.Goals.{then-begin-end+in_ok-push-2+in_ok-push-3, else-begin-end}

pub loop-section-preserved : goal.loop-section-preserved
loop-section-preserved c =
    let s = c.section-item.result in
    let here : slice_get c.args.sections.now c.loop-section.section-index ≡ Some s = slice_get_read _ _ _ s refl c.loop-section-test.true c.section-item.is in
    elim c.if-begin-end.branch [
      | then-begin-end+in_ok-push-2+in_ok-push-3 w ↦
          let points : c.if-begin-end.points.items ≡ (c.loop-section.points.items ++ s.virtual_address ∷ []) ++ window_end c.args.view s c.args.file_alignment ∷ [] = cc (w.in_ok-push-3.ensures.items, w.in_ok-push-2.ensures.items, c.section_window-begin.ensures.begin, c.section_window-begin.ensures.end, w.points-is) in
          rw points (cuts_more _ _ _ _ _ s c.loop-section.invariant here (omega (arith, w.if-begin-end.true, c.section_window-begin.ensures)) (omega (arith, c.section_window-begin.ensures)))
      | else-begin-end w ↦
          rw w.points-is (cuts_empty _ _ _ _ _ s c.loop-section.invariant here (omega (arith, w.if-begin-end.false, c.section_window-begin.ensures)))
    ]

pub returns-clause-cut : goal.returns-clause-cut
returns-clause-cut c =
    let same : c.dedup.new.self.items ≡ dedup eqb c.sort_unstable.new.self.items = dedup_is eqb _ _ c.dedup.ensures.filtered in
    let all : c.loop-section.section-index ≡ length c.args.sections.now = omega arith in
    let shorter : length (dedup eqb c.sort_unstable.new.self.items) ≤ length c.sort_unstable.new.self.items = rw (← same) (search rules) in
    rw same (cut_from _ _ _ _ c.sort_unstable.new.self.items (rw (← all) c.loop-section.invariant) c.sort_unstable.ensures.permutation c.sort_unstable.ensures.sorted shorter)

pub returns-clause-near : goal.returns-clause-near
returns-clause-near c =
    let all : c.loop-section.section-index ≡ length c.args.sections.now = omega arith in
    near_from c.args.view c.args.sections.now c.args.file_alignment c.loop-section.points.items (rw (← all) c.loop-section.invariant)
