pub mod ShortEntry
