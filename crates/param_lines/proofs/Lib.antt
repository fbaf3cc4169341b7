pub mod Fronts
pub mod Splits
pub mod Near
pub mod Ranged
pub mod Numbers
pub mod Placed
pub mod Named
pub mod Progress
pub mod Joins
pub mod Typed
pub mod Decided
pub mod Spaced
pub mod Decimals
pub mod Written
mod Examples
