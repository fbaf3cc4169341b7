-- What describes the steps of a job, and no public clause.
pub mod Steps
pub mod Text
pub mod Modules
