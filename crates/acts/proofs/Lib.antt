-- The laws of the crate's definitions.
pub mod Laws
pub mod Records
pub mod Answers
