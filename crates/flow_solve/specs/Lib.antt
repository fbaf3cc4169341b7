pub mod Limits
pub mod Walk
pub mod LeastPlan
pub mod machine
