pub mod LookedUp
pub mod Prefix
pub mod Runs
pub mod Worked
