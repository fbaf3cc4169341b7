pub mod Outline
pub mod Names
pub mod Types
pub mod Conditions
