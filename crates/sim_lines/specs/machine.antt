pub mod Cursor
pub mod Ends
