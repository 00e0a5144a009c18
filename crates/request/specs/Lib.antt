pub mod Faults
pub mod Ids
pub mod Words
