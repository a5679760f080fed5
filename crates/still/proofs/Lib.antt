-- The laws of the crate's definitions, which callers' proofs cite.
pub mod Handed
pub mod Refused
pub mod Pages
pub mod Transactions
pub mod Handing
pub mod Entries
pub mod Answers
