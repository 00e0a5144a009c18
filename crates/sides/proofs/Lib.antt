pub mod Rising
pub mod Search
pub mod Sides
pub mod Worked
