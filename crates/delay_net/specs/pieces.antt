pub mod End
pub mod Weighed
