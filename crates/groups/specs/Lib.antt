pub mod Groups
pub mod Search
