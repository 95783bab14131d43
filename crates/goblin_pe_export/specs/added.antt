pub mod ExportAddresses
pub mod ExportWalks
