pub mod Front
pub mod Pages
pub mod Stages
pub mod Theorems
