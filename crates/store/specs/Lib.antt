pub mod Graph
pub mod Order
pub mod Views
