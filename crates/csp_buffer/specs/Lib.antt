pub mod Content
pub mod Memory
pub mod PlainBuffer
pub mod Trails
pub mod Words
