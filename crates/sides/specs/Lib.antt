pub mod Search
pub mod Sides
