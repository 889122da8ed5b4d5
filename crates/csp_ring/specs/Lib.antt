pub mod Finds
pub mod Passes
