mod Lists
mod Running
mod Complete
mod Words
mod Outcomes
mod Sound
mod Standing
mod Completions
mod Unique
mod Texts
mod Chain
mod Takes
mod Walk
mod Fronts
mod Tops
pub mod CallerLemmas
pub mod Laws
mod Examples
pub mod SmallLines
