pub mod Hands
pub mod Wires
pub mod Nodes
pub mod Retired
pub mod Stores
pub mod Times
