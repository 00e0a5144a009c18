pub mod Expand
pub mod SpellWalk
pub mod TransformWalk
