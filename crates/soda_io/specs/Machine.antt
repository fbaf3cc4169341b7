-- What describes the code of files in memory, and no public clause.
pub mod Given
