mod Trailers
mod Cutting
mod Feeding
mod Collecting
mod Joining
pub mod Public
