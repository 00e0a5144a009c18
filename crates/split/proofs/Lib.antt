pub mod Arrays
pub mod Ends
pub mod GoodNodes
pub mod Links
pub mod Nodes
pub mod Slot
pub mod Theorems
pub mod Worked
