-- What describes designs on their way, and no public clause.
pub mod Designs
