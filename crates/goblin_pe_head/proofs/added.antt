pub mod SectionRecords
pub mod WholeParts
