pub mod Limits
pub mod Sums
pub mod Shape
pub mod Windows
pub mod Certificate
pub mod pieces
