pub mod Made
pub mod Partly
pub mod Inside
