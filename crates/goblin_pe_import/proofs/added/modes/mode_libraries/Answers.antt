use Rattle.goblin_pe_sect.specs.Addresses.{map_of}
use Rattle.goblin_pe_import.specs.added.Libraries.{entries_by}
use Rattle.goblin_pe_import.proofs.added.WholeLibraries.{rows-whole}
use Rattle.goblin_pe_import.proofs.added.modes.mode_libraries.Goals as goal

pub returns-clause-whole : goal.returns-clause-whole
returns-clause-whole c strict permissive same whole =
    rows-whole (map_of c.args.strict) (map_of c.args.permissive) (entries_by c.args.is_narrow) c.args.bytes.now c.args.at strict
    permissive same _ _ c.at_cursor-strictly.ensures.at c.at_cursor-permissively.ensures.at whole
