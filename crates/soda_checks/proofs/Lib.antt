pub mod Appended
pub mod CallerLemmas
pub mod Listed
pub mod Outlines
pub mod Tiles
