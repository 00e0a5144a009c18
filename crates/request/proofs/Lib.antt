pub mod Listing
pub mod Turns
pub mod Worked
