-- The laws of the crate's definitions.
pub mod Begun
pub mod Flushed
