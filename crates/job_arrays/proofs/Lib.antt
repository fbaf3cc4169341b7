pub mod CallerLemmas
pub mod InARow
pub mod OneFileRead
pub mod OneFileWritten
