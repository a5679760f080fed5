pub mod Handed
pub mod Entries
pub mod Inside
