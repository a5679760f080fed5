-- The laws of the crate's definitions, which callers' proofs cite.
pub mod Laws
pub mod Lengths
pub mod Sectors
pub mod Clears
pub mod Vectors
