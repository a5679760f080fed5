pub mod Words
pub mod Values
