pub mod Ranged
pub mod Scan
mod Worked
