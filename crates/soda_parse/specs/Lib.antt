pub mod Meaning
pub mod ProgramConditions
pub mod Text
pub mod Fails
