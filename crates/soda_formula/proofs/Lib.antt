pub mod Words
pub mod Complete
pub mod Sound
pub mod Operands
pub mod Viable
pub mod CallerLemmas
pub mod Laws
pub mod Tree
pub mod Frames
pub mod Fronts
pub mod Refusals
mod Examples
