pub mod Files
pub mod Progress
pub mod Contents
pub mod Steps
