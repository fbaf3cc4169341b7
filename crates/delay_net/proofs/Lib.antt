mod Examples
pub mod CallerLemmas
pub mod Filled
pub mod Steps
