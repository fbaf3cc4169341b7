-- What describes a firing of one module, and no public definition but by its name.
pub mod Firings
pub mod Asking
pub mod Going
pub mod Closing
