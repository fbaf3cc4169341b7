pub mod Limits
pub mod Told
pub mod Stops
pub mod Refused
pub mod machine
