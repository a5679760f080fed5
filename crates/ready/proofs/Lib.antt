-- The laws of the crate's definitions.
pub mod Prepared
pub mod ToldLaws
pub mod Answers
