pub mod Marks
pub mod Passes
pub mod Seen
pub mod Sorts
