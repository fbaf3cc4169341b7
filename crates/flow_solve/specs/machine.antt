pub mod Rounds
pub mod Residual
pub mod Conserve
pub mod Steps
