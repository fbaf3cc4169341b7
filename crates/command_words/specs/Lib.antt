pub mod Command
pub mod Modes
pub mod Orders
pub mod Views
