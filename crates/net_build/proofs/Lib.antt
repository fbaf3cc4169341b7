pub mod Greatest
pub mod Ages
pub mod Programs
pub mod Limited
pub mod Passed
pub mod Cells
pub mod Rounded
pub mod CallerLemmas
