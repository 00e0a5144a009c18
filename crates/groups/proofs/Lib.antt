pub mod Along
pub mod Groups
pub mod Keys
pub mod Placing
pub mod Worked
