pub mod Progress
pub mod Counting
pub mod Cursor
pub mod Ends
mod Examples
