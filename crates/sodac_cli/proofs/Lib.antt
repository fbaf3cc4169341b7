pub mod Few
pub mod ArrayLaws
pub mod Begun
pub mod Reading
pub mod LinesPut
mod Judged
mod OneRun
mod OneDue
pub mod Memory
pub mod Unasked
pub mod Silent
pub mod Completed
pub mod Refused
pub mod Apart
pub mod Numbered
pub mod ParamsRead
pub mod Opened
pub mod Emptied
pub mod AllAsked
pub mod Filled
pub mod Gathered
pub mod Written
pub mod Permitted
pub mod Ready
pub mod Typed
pub mod Numbers
pub mod InputFaults
pub mod Compiled
