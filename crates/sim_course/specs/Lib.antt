pub mod Course
pub mod Meeting
pub mod Inputs
pub mod Uses
