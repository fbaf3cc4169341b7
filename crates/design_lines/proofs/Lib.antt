pub mod Written
mod Examples
pub mod Appended
pub mod Numbered
pub mod Inline
pub mod Apart
pub mod Runs
pub mod Pieces
pub mod Programs
pub mod Plans
pub mod Tensors
pub mod ReadLines
pub mod CallerLemmas
