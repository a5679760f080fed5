-- The laws of the crate's definitions. Theorems has document 02's sentences.
pub mod FormLaws
pub mod MoveLaws
pub mod SquareLaws
pub mod Ways
pub mod Theorems
pub mod Vectors
