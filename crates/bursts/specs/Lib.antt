pub mod Blocks
pub mod Readers
pub mod Writers
pub mod Machine
