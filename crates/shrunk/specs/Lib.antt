pub mod Form
pub mod Calls
pub mod Inside
