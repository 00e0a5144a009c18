pub mod Steps
pub mod Walks
pub mod Worked
pub mod Writing
