pub mod Fielded
pub mod Printed
pub mod Refusing
pub mod Worked
