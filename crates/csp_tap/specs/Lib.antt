pub mod Words
pub mod Packets
pub mod Talks
pub mod Text
pub mod Pieces
pub mod Fed
