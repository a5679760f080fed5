pub mod Keyon
pub mod Inside
