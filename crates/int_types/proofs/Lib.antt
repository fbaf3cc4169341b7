pub mod Place
pub mod Wrapped
pub mod Bounds
pub mod Operated
pub mod Bitwise
pub mod Truncated
pub mod Ranges
pub mod CallerLemmas
