pub mod Edge
pub mod Handle
