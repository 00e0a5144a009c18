pub mod Found
pub mod Holding
pub mod Lines
pub mod More
pub mod Turns
pub mod Worked
