pub mod Grammar
pub mod SyntaxError
pub mod Fails
pub mod machine
