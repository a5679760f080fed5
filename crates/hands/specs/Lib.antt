pub mod Handing
pub mod Inside
