pub mod Edges
pub mod Handles
