pub mod Composed
pub mod Protected
pub mod Worked
