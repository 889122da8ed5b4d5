mod Leading
mod Naming
pub mod Public
