pub mod Light
pub mod Worlds
