pub mod CallerLemmas
pub mod Starts
pub mod Steps
pub mod Values
pub mod Touched
pub mod Depth
pub mod Numbers
pub mod From
pub mod Ranked
pub mod Borders
pub mod InRange
pub mod Readable
pub mod Examples
mod ValidExamples
