pub mod CallerLemmas
pub mod JournalLaws
pub mod ReadSteps
pub mod WriteSteps
