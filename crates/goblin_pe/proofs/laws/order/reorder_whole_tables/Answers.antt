use Rattle.goblin_pe_sect.specs.{Options.mapping_by, Addresses.with_whole_names}
use Rattle.std.proofs.Common.{ap}
use Rattle.goblin_pe_sect.proofs.Reordered.{map-reordered}
use Rattle.goblin_pe.proofs.TableRuns.{are_alike}
use Rattle.goblin_pe.proofs.laws.order.reorder_whole_tables.Goals as goal

pub returns-clause-alike : goal.returns-clause-alike
returns-clause-alike g c = λ reordered.
    are_alike _ _ _ _ _ _ _ _ _ _ _
    (ap with_whole_names
    (map-reordered (mapping_by c.args.opts.now) c.args.first.now c.args.second.now c.args.file_alignment
    reordered))
    c.read_tables-one.ensures c.read_tables-other.ensures
