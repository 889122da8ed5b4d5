mod Counting
mod Keeping
mod Serving
pub mod Public
