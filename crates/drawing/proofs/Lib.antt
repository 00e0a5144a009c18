pub mod Capping
pub mod Drawing
pub mod Fielding
