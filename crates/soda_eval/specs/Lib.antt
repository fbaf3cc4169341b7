pub mod Values
pub mod Points
pub mod Arrays
pub mod Runs
pub mod Examples
