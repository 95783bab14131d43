pub mod AuxiliarySymbolsRoundTrip
pub mod SymbolHeads
pub mod SymbolsRoundTrip
