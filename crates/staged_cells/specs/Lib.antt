pub mod Cells
pub mod Streams
pub mod Sends
pub mod pieces
