pub mod Appending
pub mod ByMember
pub mod Front
pub mod Held
pub mod Keys
pub mod OneEvent
pub mod Turns
