-- What describes parts of the code, and no public clause.
pub mod Parts
