pub mod Building
pub mod Expansion
pub mod Filling
pub mod Table
