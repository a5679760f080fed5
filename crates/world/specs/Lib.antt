pub mod World
pub mod Steps
pub mod Calls
pub mod Refusals
pub mod Run
