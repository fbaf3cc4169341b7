pub mod Away
pub mod Regions
pub mod CallerLemmas
