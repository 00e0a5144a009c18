pub mod EnumerateBranch
