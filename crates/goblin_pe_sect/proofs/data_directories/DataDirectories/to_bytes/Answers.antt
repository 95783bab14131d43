use Rattle.std.proofs.Common.{refl, replicate, arith}
use Rattle.goblin_pe_sect.proofs.Entries.{all_going, entries-going, entries_done}
use Rattle.goblin_pe_sect.proofs.data_directories.DataDirectories.to_bytes.Goals as goal

pub entries-init : goal.entries-init
entries-init c = record { long = refl; going = all_going c.args.endian c.args.self.data_directories (replicate 128 0) (omega arith) refl }

pub entries-preserved : goal.entries-preserved
entries-preserved c =
    record {
      long = omega arith;
      going = entries-going c.args.endian c.args.self.data_directories c.entries.i c.directory.result c.entries.table c.put_bytes.new.bytes _ (omega arith) c.directory.ensures (rw (← c.encode-record.ensures.made) c.put_bytes.ensures) c.entries.invariant.going;
    }

pub returns-clause-bytes : goal.returns-clause-bytes
returns-clause-bytes c = entries_done c.args.endian c.args.self.data_directories c.entries.i c.entries.table _ (omega arith) (omega arith) c.entries.invariant.going
