pub mod Shifts
pub mod Compounds
pub mod Procedure
pub mod Limits
pub mod Counts
pub mod Sizes
pub mod machine
