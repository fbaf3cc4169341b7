pub mod IntType
pub mod OperatorTable
pub mod Symbols
pub mod Limits
pub mod Names
pub mod Table
pub mod Tokens
