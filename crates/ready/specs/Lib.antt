pub mod Ready
pub mod Inside
