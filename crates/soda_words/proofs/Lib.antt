mod Examples
pub mod Skips
pub mod Fronts
pub mod CallerLemmas
pub mod Tables
