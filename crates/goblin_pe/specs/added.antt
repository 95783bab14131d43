pub mod Checksums
pub mod Layouts
