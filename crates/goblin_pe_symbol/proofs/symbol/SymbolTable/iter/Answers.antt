use Rattle.goblin_pe_symbol.proofs.SymbolHeads.{are_symbols}
use Rattle.goblin_pe_symbol.proofs.symbol.SymbolTable.iter.Goals as goal

pub returns-clause-heads : goal.returns-clause-heads
returns-clause-heads c = are_symbols c.args.self.now.symbols.now
