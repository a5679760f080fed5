pub mod Inside
pub mod Stops
