pub mod Merging
pub mod Plan
