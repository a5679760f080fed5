pub mod Pages
pub mod Calls
pub mod RoundTrip
pub mod Inside
