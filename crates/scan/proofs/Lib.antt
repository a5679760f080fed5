-- The laws of the crate's definitions, which callers' proofs cite.
pub mod Held
pub mod Turns
pub mod Surveys
