use Rattle.std.proofs.Common.{◌≡◌, ◌∙◌, ◌^◌, ◌<◌, ◌≤◌, Some, slice_get, refl, ap, inl, inr, arith}
use Rattle.std.proofs.{lemmas.Bool.cases_lt, lemmas.Option.slice_get_read}
use Rattle.goblin_pe_sect.specs.Mapping.{read_size, window_end}
use Rattle.goblin_pe_sect.specs.WindowStretches.{section_window_at}
use Rattle.goblin_pe_sect.specs.declared.windows.owners.Window.{Window}
use Rattle.goblin_pe_sect.proofs.InOrder.{in_order_empty, in_order_touching, in_order_apart, near_in_order, cut_in_order, owners_in_order}
use Rattle.goblin_pe_sect.proofs.windows.division.push_in_order.Goals as goal
use Rattle.goblin_pe_sect.proofs.windows.division.push_in_order.Goals.{then-window+else-window-end+in_ok-push_window, else-window}

pub sections-preserved : goal.sections-preserved
sections-preserved c =
    let s = c.index-sections-index.result in
    let here : slice_get c.args.sections.now c.sections.index ≡ Some s = slice_get_read _ _ _ s refl c.sections-test.true c.index-sections-index.is in
    let window : c.window_at-window.result ≡ section_window_at c.args.mapping c.args.file_alignment c.sections.index s = c.window_at-window.ensures.value in
    let begin : c.window_at-window.result.begin ≡ s.virtual_address = ap (λ (w : Window). w.begin) window in
    let end : c.window_at-window.result.end ≡ window_end c.args.mapping.view s c.args.file_alignment = ap (λ (w : Window). w.end) window in
    let small : read_size c.args.mapping.view s c.args.file_alignment ≤ 2 ^ 33 = omega (arith, c.window_at-window.ensures.near, begin, end) in
    elim c.if-window.branch [
      | then-window+else-window-end+in_ok-push_window w ↦
          let some : 0 < read_size c.args.mapping.view s c.args.file_alignment = omega (arith, w.if-window.true, begin, end) in
          let last : c.if-window.end ≡ window_end c.args.mapping.view s c.args.file_alignment = w.end-is ∙ end in
          elim (cases_lt c.sections.end s.virtual_address) [
            | inl after ↦
                rw (w.pieces-is, last, w.in_ok-push_window.ensures.apart_begins (omega arith), w.in_ok-push_window.ensures.apart_owners (omega arith), window) (in_order_apart _ _ _ _ _ _ _ s c.sections.invariant here after some small)
            | inr before ↦
                let touching : c.sections.end ≡ s.virtual_address = omega (arith, w.if-window-end.false, before, begin) in
                rw (w.pieces-is, last, w.in_ok-push_window.ensures.begins (omega arith), w.in_ok-push_window.ensures.owners (omega arith), window) (in_order_touching _ _ _ _ _ _ _ s c.sections.invariant here touching some small)
          ]
      | else-window w ↦
          let empty : read_size c.args.mapping.view s c.args.file_alignment ≡ 0 = omega (arith, w.if-window.false, begin, end) in
          rw (w.pieces-is, w.end-is) (in_order_empty _ _ _ _ _ _ _ s c.sections.invariant here empty)
    ]

pub returns : goal.returns
returns c = λ yes. record {
  cut = rw c.in_ok-push_piece.ensures.begins (cut_in_order _ _ _ _ _ _ _ c.sections.invariant (omega arith));
  near = near_in_order _ _ _ _ _ _ _ c.sections.invariant (omega arith);
  owned = rw (c.in_ok-push_piece.ensures.begins, c.in_ok-push_piece.ensures.owners) (owners_in_order _ _ _ _ _ _ _ c.sections.invariant (omega arith));
}
