mod Numbers
mod Division
mod Checked
mod Words
mod Blocks
mod Bytes
pub mod Public
