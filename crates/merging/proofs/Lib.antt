pub mod NodeTurns
pub mod Putting
