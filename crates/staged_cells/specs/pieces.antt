pub mod Ports
pub mod Within
