pub mod UnnamedMaps
