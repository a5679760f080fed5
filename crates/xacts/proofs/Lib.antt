-- The laws of the crate, and the theorem.
pub mod Remade
pub mod Slots
pub mod Ways
pub mod Theorem
pub mod Vectors
