pub mod Making
pub mod Outcome
pub mod Put
pub mod Ready
