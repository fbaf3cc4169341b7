-- What describes the code, and no public clause.
pub mod OneFile
