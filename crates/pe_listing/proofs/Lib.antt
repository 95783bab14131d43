pub mod Blocks
pub mod Digits
pub mod Pushed
pub mod UnescapedNames
