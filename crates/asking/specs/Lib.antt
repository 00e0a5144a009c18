pub mod EnumerateBranch
pub mod GetSharedPrefix
pub mod LiveLetters
