pub mod Blurred
