mod Circling
mod Counting
mod Frames
mod StepLaws
pub mod Public
