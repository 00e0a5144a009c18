pub mod Measure
pub mod Rewriting
