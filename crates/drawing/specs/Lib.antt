pub mod Capped
pub mod Drawn
