-- The laws of the crate's definitions.
pub mod Sealed
pub mod Advanced
pub mod Committed
pub mod RolledBack
