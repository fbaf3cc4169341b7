pub mod Members
mod Examples
pub mod Rising
pub mod OfLane
pub mod OfAllLanes
pub mod CallerLemmas
