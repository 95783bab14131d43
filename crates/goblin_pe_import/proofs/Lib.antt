pub mod ImportBound
pub mod ImportDirectoryRoundTrip
pub mod Imports
pub mod LibraryNames
pub mod HintNames
mod Listed
pub mod ListedImports
pub mod LibraryIndexes
pub mod LookupSlots
pub mod LookupWalk
pub mod Modes
pub mod PassedSlots
pub mod PermissiveReads
pub mod SlotSteps
