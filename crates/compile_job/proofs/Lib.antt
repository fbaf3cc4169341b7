pub mod Designed
