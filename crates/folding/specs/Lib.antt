pub mod Collapse
pub mod CollapseAll
