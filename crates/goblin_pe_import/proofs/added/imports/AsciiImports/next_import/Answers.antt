use Rattle.std.proofs.Common.{◌+◌, ℕ, ap, sym, refl}
use Rattle.goblin_pe_sect.specs.Addresses.{map_of, reads_strictly}
use Rattle.goblin_pe_import.specs.Passed.{count_of}
use Rattle.goblin_pe_import.specs.added.ImportWalks.{records_ahead, walk_at, walk_passes}
use Rattle.goblin_pe_import.specs.added.TestedTables.{in_next}
use Rattle.goblin_pe_import.proofs.PassedSlots.{risen-same, risen-start}
use Rattle.goblin_pe_import.proofs.added.ImportSteps.{imports-start, next-one}
use Rattle.goblin_pe_import.proofs.added.imports.AsciiImports.next_import.Goals as goal

pub returns-clause-passes : goal.returns-clause-passes
returns-clause-passes g c k =
    let here = c.args.self.now.imports.walk in
    ap (λ (n : ℕ). n + records_ahead (reads_strictly (map_of here.finder)) g.T.Bitfield.format (map_of here.finder).addressing here.bytes.now k here.at.next_record (in_next (reads_strictly (map_of here.finder)) here.at.tested)) (rw c.size_of.ensures.width (c.in-Some.ensures.passed k))

pub returns-clause-gives : goal.returns-clause-gives
returns-clause-gives g c =
    let here = walk_at c.args.self.now.imports.walk c.args.self.now.place in
    let next = next-one g.T.Bitfield.format here here (imports-start _ _) c.in-Some.kept c.in-Some.ensures.steps _ (ap (λ (n : ℕ). n + g.T.Bitfield.format.width) (sym c.in-Some.ensures.here)) in
    ((rw (c.import_of-import.ensures, c.size_of.ensures.width) next, λ named. named, tt, (refl, refl), tt, λ k. risen-same _ _ _ _ _ (risen-start (count_of k here.passed) (walk_passes g.T.Bitfield.format here k)) (ap (λ (n : ℕ). n + records_ahead (reads_strictly (map_of here.finder)) g.T.Bitfield.format (map_of here.finder).addressing here.bytes.now k here.at.next_record (in_next (reads_strictly (map_of here.finder)) here.at.tested)) (rw c.size_of.ensures.width (c.in-Some.ensures.passed k)))), refl)
