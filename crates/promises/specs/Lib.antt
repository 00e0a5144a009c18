pub mod Conditions
pub mod Outcomes
pub mod Tests
pub mod Walks
