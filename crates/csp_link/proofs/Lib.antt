mod Applying
mod Copied
mod Due
mod Kept
mod Named
mod Sound
mod Stocked
pub mod Public
