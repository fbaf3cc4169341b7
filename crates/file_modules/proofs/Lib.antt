pub mod Lanes
pub mod Fired
pub mod Handed
pub mod CallerLemmas
