pub mod Nets
pub mod Firings
pub mod States
pub mod Waits
pub mod CycleRun
pub mod machine
pub mod Worked
