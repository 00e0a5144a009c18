pub mod Answers
pub mod Faults
pub mod Input
pub mod Parts
pub mod Stream
