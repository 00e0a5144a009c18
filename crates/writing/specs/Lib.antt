pub mod Filled
pub mod GraphText
pub mod Marks
pub mod Outcome
pub mod Search
pub mod TableText
