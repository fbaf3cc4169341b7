pub mod Printed
pub mod OneText
pub mod CallerLemmas
