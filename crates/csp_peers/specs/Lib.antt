pub mod Addressed
pub mod Clear
pub mod Nearness
pub mod Sent
pub mod Unforged
pub mod Window
