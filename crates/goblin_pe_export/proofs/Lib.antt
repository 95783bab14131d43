pub mod ExportDirectoryRoundTrip
mod ExportRows
mod Grammar
mod WholeEntries
