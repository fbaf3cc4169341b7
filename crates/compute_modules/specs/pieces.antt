pub mod Formulas
pub mod Taps
pub mod Walks
