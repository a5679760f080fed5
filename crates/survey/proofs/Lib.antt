-- The laws of the crate's definitions, which callers' proofs cite.
pub mod Turns
pub mod Logged
