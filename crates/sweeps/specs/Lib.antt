pub mod Sweeps
pub mod Inside
