pub mod Closed
pub mod Remains
