pub mod Cuts
pub mod Headers
pub mod Naming
pub mod Refusing
pub mod StepEnds
pub mod StepNumbers
pub mod Worked
