pub mod Drives
pub mod Falls
pub mod Going
pub mod Grown
pub mod Theorems
pub mod Turns
pub mod Worked
