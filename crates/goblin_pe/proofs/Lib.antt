-- Lemmas of the crates below that callers may cite: the parts of a header, what reads back, and steps of
-- readings and walks.
pub use Rattle.goblin_base.proofs.Footprints
pub use Rattle.goblin_base.proofs.Fronts
pub use Rattle.goblin_base.proofs.Steps
pub use Rattle.readings.proofs.WalkValues
pub use Rattle.goblin_pe_head.proofs.CoffHeaderRoundTrip
pub use Rattle.goblin_pe_head.proofs.ConsistentHeaders
pub use Rattle.goblin_pe_head.proofs.DosHeaderRoundTrip
pub use Rattle.goblin_pe_head.proofs.PeHeaderRoundTrip
-- The others are the library's own: they change with it.
pub mod Collected
pub mod ImportParts
pub mod KeptImports
pub mod Parts
pub mod PermissiveReads
pub mod TableRuns
pub mod TwinParts
