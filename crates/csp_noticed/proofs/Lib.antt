mod Remainders
mod Flipping
mod Damage
mod Escaping
mod Reading
mod WholeFrames
pub mod Public
