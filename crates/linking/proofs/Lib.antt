pub mod Fitting
pub mod Growth
pub mod Passing
pub mod Rounds
