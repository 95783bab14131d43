use Rattle.std.proofs.Common.{◌<◌, ◌∷◌, [], ◌++◌, List, length, ap, sym, take, ◌∙◌, arith}
use Rattle.std.proofs.{lemmas.List.take_more, lemmas.Option.get_or_from_slice_get}
use Rattle.goblin_pe_sect.specs.SectionTable.{Section, mapped_sections}
use Rattle.goblin_pe_sect.proofs.added.record_map.listed.Goals as goal

pub records-preserved : goal.records-preserved
records-preserved c =
    let all : List Section = mapped_sections c.args.records in
    let i = c.records.i in
    let s : Section = c.at.result in
    let within : i < length all = omega (arith, c.records-test.true, c.len-count.ensures, c.records.auto.i-end) in
    c.in_ok-push.ensures.items
    ∙ ap (λ (xs : List Section). xs ++ s ∷ []) c.records.invariant
    ∙ sym (take_more all i s within ∙ ap (λ (x : Section). take i all ++ x ∷ []) (get_or_from_slice_get all i s s c.at.ensures))
