pub mod Main
pub mod Said
pub mod Gen
pub mod Prefix
pub mod Threads
pub mod Tap
pub mod Owes
