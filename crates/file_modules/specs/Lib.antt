pub mod Firings
pub mod Modules
pub mod Laws
