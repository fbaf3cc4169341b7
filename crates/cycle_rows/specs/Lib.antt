pub mod Soundness
pub mod Relayed
