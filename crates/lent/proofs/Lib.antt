pub mod Laws
pub mod Worlds
pub mod Answers
