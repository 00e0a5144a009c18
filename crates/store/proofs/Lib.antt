pub mod Fields
pub mod Lookups
pub mod Order
pub mod Worked
