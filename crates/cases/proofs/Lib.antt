pub mod Copying
pub mod Items
pub mod Tests
