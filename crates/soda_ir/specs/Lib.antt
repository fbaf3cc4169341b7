pub mod Formula
pub mod Tree
pub mod Points
pub mod Program
pub mod Written
pub mod Uses
pub mod Counts
pub mod Valid
