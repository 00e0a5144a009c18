pub mod Letters
pub mod Sequences
