use Rattle.std.proofs.Common.{refl, sym, ◌∙◌, arith}
use Rattle.goblin_pe_sect.specs.declared.data_directories.DataDirectoryType.TheVariants.{ExportTable}
use Rattle.goblin_pe_sect.specs.DataDirectories.{kinds}
use Rattle.goblin_pe_sect.proofs.Entries.{walk_end, walk_none, walk_some}
use Rattle.goblin_pe_sect.proofs.data_directories.DirsIterator.next.Goals as goal

pub returns-in-Some-clause-steps : goal.returns-in-Some-clause-steps
unfolding kinds
returns-in-Some-clause-steps c =
    sym c.entries.invariant.left ∙ walk_some c.entries.self.directories.data_directories c.entries.index ExportTable _ c.entries-test.true (omega arith) c.in-Some.is

pub entries-preserved : goal.entries-preserved
entries-preserved c =
    let before = c.entries.invariant in
    record {
      at = refl;
      left = walk_none c.entries.self.directories.data_directories c.entries.index c.entries-test.true (omega arith) c.in_default.is ∙ before.left;
    }

pub returns-clause-steps : goal.returns-clause-steps
returns-clause-steps c =
    let before = c.entries.invariant in
    (sym before.left ∙ walk_end c.entries.self.directories.data_directories c.entries.index (omega arith), walk_end c.entries.self.directories.data_directories c.entries.self.index (omega arith))
