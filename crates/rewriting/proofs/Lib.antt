pub mod Images
pub mod Old
pub mod Tables
pub mod Walks
pub mod Worked
