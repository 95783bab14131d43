use Rattle.std.proofs.Common.{◌*◌, refl, arith}
use Rattle.goblin_pe_sect.proofs.DirectoryReadings.{one_more, record_there}
use Rattle.goblin_pe_sect.proofs.data_directories.fill.Goals as goal

pub entries-preserved : goal.entries-preserved
entries-preserved c =
    let there = record_there c.args.bytes.now c.args.offset (8 * c.entries.i) c.in_record-directory.result (omega (arith, c.requires.room, c.entries-test.true)) c.in_record-directory.ensures in
    one_more c.entries.i c.args.bytes.now c.args.offset _ _ c.entries.entries c.in_record-directory.result c.fill_entry.new.entry (omega (arith, c.entries-test.true, c.requires.few)) refl refl c.entries.invariant there c.fill_entry.ensures
