pub mod Held
pub mod Outcome
pub mod Reading
