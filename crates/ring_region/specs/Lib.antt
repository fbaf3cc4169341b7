pub mod Fifos
pub mod machine
