pub mod Prefix
pub mod Reading
