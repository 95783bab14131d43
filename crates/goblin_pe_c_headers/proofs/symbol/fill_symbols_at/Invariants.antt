-- The symbols so far fill the records.
use Rattle.goblin_pe_c_headers.proofs.Symbols.{IsGiving}
use Rattle.goblin_pe_c_headers.proofs.symbol.fill_symbols_at.Given as goal

abbrev pub invariant-symbols : goal.invariant-symbols
invariant-symbols l = IsGiving l.tables.longest l.tables.records.now l.tables.strings.now l.initial.position l.initial.records l.index l.records l.count
