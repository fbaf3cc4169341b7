pub mod Numbers
pub mod Steps
pub mod Passed
pub mod Types
