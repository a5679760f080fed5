pub mod Replay
pub mod Inside
