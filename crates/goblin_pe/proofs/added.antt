-- Lemmas that callers may cite: loops over walks.
pub mod Folds
-- The others are the library's own: they change with it.
pub mod ImportStarts
pub mod SectionNames
pub mod WalkedParts
