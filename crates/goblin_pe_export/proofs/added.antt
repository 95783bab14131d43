pub mod ExportAddresses
pub mod ExportWalk
