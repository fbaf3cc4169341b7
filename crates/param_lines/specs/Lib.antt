pub mod Lines
pub mod Values
pub mod Params
pub mod Laws
pub mod Written
pub mod pieces
