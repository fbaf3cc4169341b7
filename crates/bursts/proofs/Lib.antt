pub mod OneByOne
pub mod Filled
pub mod TextSteps
pub mod RawSteps
pub mod Blocked
pub mod CallerLemmas
pub mod WritesBehind
pub mod WriterSteps
