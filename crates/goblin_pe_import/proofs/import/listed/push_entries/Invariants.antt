use Rattle.std.proofs.Common.{map}
use Rattle.goblin_pe_import.specs.ImportLookup.{entry_model}
use Rattle.goblin_pe_import.proofs.Imports.{AtEntry}
use Rattle.goblin_pe_import.proofs.import.listed.push_entries.Given as goal

abbrev pub invariant-entries : goal.invariant-entries
invariant-entries l =
    AtEntry l.fn.size l.fn.dll l.fn.rva (map entry_model l.fn.entries) l.fn.slots l.position
    l.initial.imports.items l.imports.items
