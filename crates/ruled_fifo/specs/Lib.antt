pub mod Ends
pub mod rule
