pub mod Laws
pub mod Sequences
pub mod Worked
