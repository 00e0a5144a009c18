pub mod RuleTurns
pub mod Worked
