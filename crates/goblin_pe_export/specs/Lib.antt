pub mod ExportReadings
pub mod ExportRecords
pub mod Exports
pub mod ForwarderLaws
pub mod Forwarders
pub mod added
