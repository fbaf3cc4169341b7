pub mod Steps
pub mod Lines
pub mod Pieces
pub mod Stops
pub mod Refusals
