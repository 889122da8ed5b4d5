pub mod Services
pub mod Counting
pub mod Facts
pub mod Clock
pub mod Kept
pub mod Answers
