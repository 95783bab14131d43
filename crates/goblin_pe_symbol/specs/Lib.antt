pub mod AuxiliarySymbols
pub mod Symbols
