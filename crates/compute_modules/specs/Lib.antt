pub mod Modules
pub mod pieces
