pub mod Picks
pub mod Inside
