pub mod AllWorked
