mod Awaiting
mod Circling
mod Keeping
mod Resting
mod Sendable
mod Unmoved
pub mod Public
