pub mod Desk
pub mod Page
