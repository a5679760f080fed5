pub mod HandLaws
pub mod Vectors
