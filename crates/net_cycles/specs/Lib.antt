pub mod Between
pub mod Streams
pub mod Cycles
pub mod Holdings
pub mod Running
pub mod machine
