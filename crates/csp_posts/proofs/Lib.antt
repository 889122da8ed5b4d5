mod Books
mod Crossing
mod Flowing
mod Marking
mod Parties
mod Running
mod Staying
mod Sweeping
mod Tracing
mod Turning
mod TurnsBooks
pub mod Public
