pub mod Appended
mod Examples
pub mod Operators
pub mod Written
pub mod Tokens
pub mod Tokenized
pub mod Read
pub mod Readable
pub mod Sizing
pub mod Ascii
pub mod Printable
pub mod Short
pub mod CallerLemmas
