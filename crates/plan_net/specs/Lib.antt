pub mod Layouts
pub mod Limits
pub mod machine
