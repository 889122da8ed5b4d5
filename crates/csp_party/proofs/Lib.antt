mod Circling
mod Turned
pub mod Public
