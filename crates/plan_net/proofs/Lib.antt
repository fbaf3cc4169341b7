pub mod ByTap
pub mod Standing
pub mod Steps
