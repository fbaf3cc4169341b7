pub mod Limits
pub mod Sizes
pub mod Runs
pub mod Values
pub mod Arrays
pub mod Written
pub mod ReadNumber
pub mod Machine
