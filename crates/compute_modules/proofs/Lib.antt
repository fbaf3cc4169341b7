pub mod Sides
pub mod Walks
pub mod Taps
pub mod Formulas
pub mod Modules
