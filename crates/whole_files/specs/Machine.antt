-- What describes the loops over reads and writes, and no public clause.
pub mod SoFar
