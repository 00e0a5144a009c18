pub mod InOrder
pub mod Letters
pub mod Past
pub mod Worked
