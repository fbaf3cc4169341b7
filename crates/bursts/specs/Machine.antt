-- What describes the code of readers and writers, and no public definition but by its name.
pub mod Feeds
pub mod Sources
pub mod Calls
pub mod Buffers
