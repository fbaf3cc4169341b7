pub mod Limits
pub mod Planned
