pub mod Rounds
pub mod PartSteps
pub mod CallerLemmas
