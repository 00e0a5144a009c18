pub mod Drive
pub mod Outcome
pub mod Turn
