-- The laws of the crate's definitions, which callers' proofs cite.
pub mod Clogs
pub mod Ways
