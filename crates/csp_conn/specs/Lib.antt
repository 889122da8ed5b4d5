pub mod Slots
pub mod Circle
pub mod PlainConns
pub mod Opening
