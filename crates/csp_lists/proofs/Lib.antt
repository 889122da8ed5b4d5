mod Answering
mod Backs
mod Conserving
mod Counting
mod Fifos
mod Fresh
mod Positions
mod Queued
mod Standing
mod Weighing
pub mod Public
