-- The rule of a queue and the kinds of step that keep it.
pub mod Steps
pub mod Kept
