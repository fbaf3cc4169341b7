pub mod CallerLemmas
pub mod Entries
pub mod Going
pub mod Advancing
pub mod ByOneId
pub mod Outputs
pub mod Listed
pub mod Emptying
pub mod Created
mod Examples
