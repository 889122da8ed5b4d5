mod Keeping
mod Knowing
pub mod Public
