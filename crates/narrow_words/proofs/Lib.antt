pub mod Low
pub mod Recip
pub mod Cells
pub mod AsInt32
pub mod CallerLemmas
