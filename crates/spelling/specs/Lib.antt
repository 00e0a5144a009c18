pub mod Measure
pub mod Spelling
