pub mod Plans
pub mod Room
pub mod Told
pub mod Inside
