pub mod Circling
pub mod Drained
pub mod PlainBridge
pub mod Room
pub mod Turns
