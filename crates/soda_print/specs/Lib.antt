pub mod Canonical
pub mod machine
pub mod Sized
