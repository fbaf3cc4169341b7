-- What describes the code, and is no part of what it promises.
pub mod Marks
pub mod Search
