pub mod Decimal
pub mod Layout
pub mod Loops
pub mod Put
pub mod Refusal
