mod Ports
mod Found
pub mod Public
