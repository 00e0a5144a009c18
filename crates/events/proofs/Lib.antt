pub mod Fields
pub mod Order
pub mod Says
pub mod Walks
pub mod Worked
