pub mod Lists
pub mod Plans
pub mod Modules
pub mod Queues
pub mod Reuse
pub mod machine
