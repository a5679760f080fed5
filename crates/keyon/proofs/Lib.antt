-- The laws of the crate's definitions, which callers' proofs cite.
pub mod Tables
pub mod Tests
pub mod Ways
pub mod Worlds
