pub mod Accepted
pub mod Gfa1
pub mod Holds
pub mod Narrowings
pub mod Said
