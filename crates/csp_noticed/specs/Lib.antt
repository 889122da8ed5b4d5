pub mod Flipping
pub mod Plain
pub mod Made
