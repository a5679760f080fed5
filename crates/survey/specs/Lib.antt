pub mod Survey
pub mod Inside
