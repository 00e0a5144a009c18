pub mod Ahead
pub mod Longer
