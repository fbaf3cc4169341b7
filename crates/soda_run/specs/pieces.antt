pub mod Reads
pub mod Filled
