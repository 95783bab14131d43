use Rattle.std.proofs.Common.{◌∙◌, ◌+◌, ap, arith, refl, set}
use Rattle.goblin_pe_import.specs.declared.added.imports.Imports.{Imports}
use Rattle.goblin_pe_import.specs.added.ImportWalks.{passed_of}
use Rattle.std.proofs.lemmas.List.{length-set}
use Rattle.goblin_pe_c_tables.specs.Batches.{Fills}
use Rattle.goblin_pe_c_tables.proofs.ImportBatches.{filled-more, filled-none}
use Rattle.goblin_pe_c_tables.proofs.Here.{here-more, here-start}
use Rattle.goblin_pe_c_tables.proofs.next.fill_here.Goals as goal

pub returns-in_default-clause-filled : goal.returns-in_default-clause-filled
returns-in_default-clause-filled g c = here-start g.T.Bitfield.format c.args.imports.now _ (filled-none c.args.longest c.args.records.now c.args.first)

pub ascii-init : goal.ascii-init
ascii-init g c = (
  rw c.in-Some.ensures.begins (here-start g.T.Bitfield.format c.args.imports.now _ (filled-none c.args.longest c.args.records.now c.args.first)),
  omega arith,
  c.in-Some.ensures.same,
  refl,
  λ h. h,
)

pub ascii-preserved : goal.ascii-preserved
ascii-preserved g c =
    let further = c.ascii.invariant.1 in
    let gives = c.in-Some-next_import.ensures in (
      here-more g.T.Bitfield.format c.args.imports.now _ _ _ (Fills c.args.longest c.args.records.now (set c.ascii.records c.ascii.count c.put_import.new.place) c.args.first (c.ascii.count + 1)) c.ascii.invariant.0 c.in-Some-next_import.import gives.gives.0 gives.counted gives.passes (ap (λ (i : Imports g.row.T.Denot). passed_of i) gives.gives.1) (filled-more c.args.longest c.args.records.now c.ascii.records c.args.first c.ascii.count c.in-Some-next_import.import c.put_import.new.place (omega (arith, c.ascii-test.true, c.ascii.invariant.3, c.requires)) c.put_import.ensures),
      omega (arith, further),
      gives.gives.1 ∙ c.ascii.invariant.2,
      length-set c.ascii.records c.ascii.count c.put_import.new.place ∙ c.ascii.invariant.3,
      λ _. omega (arith, c.ascii-test.true),
    )
