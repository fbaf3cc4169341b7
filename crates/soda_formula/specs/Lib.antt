pub mod Terms
pub mod Grammar
pub mod Reading
pub mod Tree
pub mod Statements
pub mod Fails
pub mod machine
