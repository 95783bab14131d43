use Rattle.std.proofs.Common.{◌≡◌, ◌+◌, ◌-◌, ℕ, Some, ap, refl, sym, ◌∙◌, arith}
use Rattle.std.proofs.lemmas.Grind.{common_steps}
use Rattle.goblin_pe_sect.specs.Mapping.{ends_in, mapped_end, offset_in}
use Rattle.goblin_base.specs.{declared.mapped.MappedEnd.MappedEnd, Parts.end_or_none}
use Rattle.goblin_pe_sect.specs.declared.address_map.run.Place.{Place}
use Rattle.goblin_pe_sect.specs.{declared.options.Mapping.Mapping, SectionTable.Section}
use Rattle.goblin_pe_sect.proofs.Walked.{place_in, owned, owned_by_none, passed_after, passed_before}
use Rattle.goblin_pe_sect.proofs.address_map.walk.find_window.Goals.{then-rva-begin, else-rva-begin+then-end-rva}
use Rattle.goblin_pe_sect.proofs.address_map.walk.find_window.Goals as goal

pub records-preserved-then-past-rva : goal.records-preserved-then-past-rva
records-preserved-then-past-rva c =
    let now = c.records.invariant in
    record {
      is = passed_before _ _ c.requires.maps c.requires.aligned _ _ _ _ _ now.is _ _ c.in-Some.ensures _ _ c.past_window-past.result (grind (arith, common_steps)) refl (c.past_window-past.ensures.past c.args.mapping.view c.args.file_alignment) c.if-past-rva.true;
      same = now.same;
    }

pub records-preserved-after-rva-begin : goal.records-preserved-after-rva-begin
records-preserved-after-rva-begin c =
    let now = c.records.invariant in
    let window = c.section_window-begin.ensures in
    elim c.if-rva-begin.branch [
      | then-rva-begin w ↦ record {
        is = passed_after _ _ c.requires.maps c.requires.aligned _ _ _ _ _ now.is _ _ c.in-Some.ensures _ _ _ w.low-is (w.high-is ∙ w.min-high.ensures) window.begin w.if-rva-begin.true;
        same = now.same;
      }
      | else-rva-begin+then-end-rva w ↦ record {
        is = passed_before _ _ c.requires.maps c.requires.aligned _ _ _ _ _ now.is _ _ c.in-Some.ensures _ _ _ (w.low-is ∙ w.max-low-then-end-rva.ensures) w.high-is (omega (arith, window.end)) w.if-end-rva.true;
        same = now.same;
      }
    ]

pub records-preserved : goal.records-preserved
records-preserved c =
    let now = c.records.invariant in
    let window = c.section_window-begin.ensures in
    elim c.if-rva-begin.branch [
      | then-rva-begin w ↦ record {
        is = passed_after _ _ c.requires.maps c.requires.aligned _ _ _ _ _ now.is _ _ c.in-Some.ensures _ _ _ w.low-is (w.high-is ∙ w.min-high.ensures) window.begin w.if-rva-begin.true;
        same = now.same;
      }
      | else-rva-begin+then-end-rva w ↦ record {
        is = passed_before _ _ c.requires.maps c.requires.aligned _ _ _ _ _ now.is _ _ c.in-Some.ensures _ _ _ (w.low-is ∙ w.max-low-then-end-rva.ensures) w.high-is (omega (arith, window.end)) w.if-end-rva.true;
        same = now.same;
      }
    ]

-- the place that the window gives, with an end that says the same
same_place : (mapping : Mapping) (alignment : ℕ) (s : Section) (rva offset : ℕ) (own end : MappedEnd) → offset ≡ offset_in mapping s rva → end ≡ end_or_none (ends_in mapping.view (Some own)) → own ≡ mapped_end mapping alignment s → record { offset = offset; end = end } ≡ place_in mapping alignment s rva
same_place mapping alignment s rva offset own end here last is =
    let whole : end ≡ end_or_none (ends_in mapping.view (Some (mapped_end mapping alignment s))) = last ∙ ap (λ (e : MappedEnd). end_or_none (ends_in mapping.view (Some e))) is in
    rw (here, whole) refl

pub returns-else-end-rva-clause-value : goal.returns-else-end-rva-clause-value
returns-else-end-rva-clause-value c =
    let s = c.in-Some.section in
    let w = c.section_window-begin.ensures in
    let now = c.records.invariant in
    let rva = c.args.rva in
    let has = owned _ _ c.requires.maps c.requires.aligned _ _ _ _ _ now.is s _ c.in-Some.ensures rva now.is.from now.is.to
    (omega (arith, w.begin, c.if-rva-begin.false)) (omega (arith, w.end, c.if-end-rva.false)) in
    let same : c.raw_begin-pointer.result + (rva - c.section_window-begin.result.0) ≡ offset_in c.args.mapping s rva = omega (arith, c.raw_begin-pointer.ensures, w.begin) in
    ap (λ (p : Place). Some p) (same_place c.args.mapping c.args.file_alignment s rva _ _ _ same c.ends-mapped.ensures c.mapped_end-mapped.ensures) ∙ sym has

pub returns-else-end-rva-clause-is : goal.returns-else-end-rva-clause-is
returns-else-end-rva-clause-is c =
    let s = c.in-Some.section in
    let w = c.section_window-begin.ensures in
    let first = c.max-first.result in
    λ before. record {
      offsets_fit = omega (arith, w.begin, w.end, w.near, c.max-first.ensures, c.min.ensures);
      addresses_fit = omega (arith, w.begin, w.end, w.near, c.max-first.ensures, c.min.ensures);
      answers = λ rva from to.
          let has = owned _ _ c.requires.maps c.requires.aligned _ _ _ _ _ c.records.invariant.is s _ c.in-Some.ensures rva
          (omega (arith, from, c.max-first.ensures)) (omega (arith, from, to, c.min.ensures)) (omega (arith, from, c.max-first.ensures, w.begin)) (omega (arith, from, to, c.min.ensures, w.end)) in
          let same : c.raw_begin-pointer.result + (first - c.section_window-begin.result.0) + (rva - first) ≡ offset_in c.args.mapping s rva = omega (arith, from, c.max-first.ensures, c.raw_begin-pointer.ensures, w.begin) in
          has ∙ sym (ap (λ (p : Place). Some p) (same_place c.args.mapping c.args.file_alignment s rva _ _ _ same c.ends-mapped.ensures c.mapped_end-mapped.ensures));
    }

pub returns-clause-value : goal.returns-clause-value
returns-clause-value c = sym (owned_by_none _ _ c.requires.maps c.requires.aligned _ _ _ _ _ c.records.invariant.is c.in_default.ensures)
