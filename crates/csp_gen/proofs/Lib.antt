mod Decimals
mod Draws
mod Joining
mod Length
mod Routing
mod Stating
mod Wording
pub mod Public
