pub mod CallerLemmas
pub mod Order
pub mod Steps
pub mod Numbers
pub mod Made
pub mod Rounds
pub mod OutputNumbers
pub mod Sequence
pub mod InOrder
pub mod Pairs
pub mod StagedLists
pub mod Closed
mod Examples
pub mod StagedCounts
pub mod StagedReads
pub mod Gathered
pub mod Sources
