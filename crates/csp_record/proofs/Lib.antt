mod Counting
mod Gaining
mod Ordinals
mod Passing
mod Tables
pub mod Public
