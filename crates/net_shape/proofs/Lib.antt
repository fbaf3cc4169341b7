mod Examples
pub mod Placed
pub mod Rising
pub mod Numbers
pub mod Stands
pub mod Feeds
pub mod Orderly
pub mod Apart
pub mod Networks
pub mod Spans
pub mod Shares
pub mod Sizes
pub mod CallerLemmas
