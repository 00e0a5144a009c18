pub mod Bounds
pub mod Says
pub mod Worked
