pub mod Refused
pub mod Transactions
pub mod Pages
pub mod Answers
pub mod Entries
