pub mod Kept
pub mod Search
