pub mod Flow
pub mod Kept
