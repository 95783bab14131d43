use Rattle.goblin_pe_sect.specs.Addresses.{reads_strictly}
use Rattle.goblin_pe_import.specs.{KeptEntries.entries_from, added.ImportWalks.imports_next}
use Rattle.goblin_pe_import.proofs.added.ImportsWalk.{imports-once}
use Rattle.goblin_pe_import.proofs.added.imports.ImportCursor.at_record.Goals as goal

pub returns-clause-left : goal.returns-clause-left
unfolding entries_from imports_next
returns-clause-left c m format bytes =
    rw c.end.ensures
    (imports-once (reads_strictly m) format m.addressing bytes c.args.first c.args.offset)
