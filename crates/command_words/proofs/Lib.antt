mod Examples
pub mod Faultless
pub mod Forms
pub mod Given
pub mod Parsed
pub mod Ordered
