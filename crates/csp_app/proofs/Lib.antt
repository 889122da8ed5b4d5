mod Blobs
mod Bursts
mod Collectors
mod Counting
mod Hearing
mod StepLaws
mod Popping
mod Scripts
mod Takes
pub mod Public
