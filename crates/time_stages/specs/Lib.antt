pub mod Placing
pub mod Margins
pub mod Staged
pub mod pieces
