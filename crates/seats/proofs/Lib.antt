-- The laws of the crate's definitions, which callers' proofs cite.
pub mod Laws
pub mod Answers
