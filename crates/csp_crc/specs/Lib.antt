pub mod Bits
pub mod Crc
pub mod Check
pub mod Register
