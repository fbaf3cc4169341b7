pub mod Modules
pub mod machine
