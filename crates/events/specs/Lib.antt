pub mod Events
pub mod WellFormed
