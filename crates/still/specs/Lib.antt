pub mod Still
pub mod Entries
pub mod Inside
