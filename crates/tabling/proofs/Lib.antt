pub mod Rows
pub mod TableSize
