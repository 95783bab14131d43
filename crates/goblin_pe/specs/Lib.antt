pub mod Modes
pub mod TableRuns
pub mod TwinParts
pub mod Whole
pub mod added
-- The definitions of the crates below, so that a caller's clauses name only this crate.
pub use Rattle.goblin_base.specs as base
pub use Rattle.readings.specs as readings
pub use Rattle.goblin_pe_sect.specs as sect
pub use Rattle.goblin_pe_symbol.specs as symbol
pub use Rattle.goblin_pe_head.specs as head
pub use Rattle.goblin_pe_import.specs as import
pub use Rattle.goblin_pe_export.specs as export
