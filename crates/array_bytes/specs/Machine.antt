-- What describes the code that reads bytes one by one, and no public definition.
pub mod Scans
pub mod Lines
