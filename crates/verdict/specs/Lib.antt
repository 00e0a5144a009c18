pub mod Conditions
pub mod Search
