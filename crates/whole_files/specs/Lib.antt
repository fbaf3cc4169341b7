pub mod Journal
pub mod Reading
pub mod Writing
pub mod Sinking
pub mod Machine
