pub mod Scans
pub mod Surveys
pub mod Inside
