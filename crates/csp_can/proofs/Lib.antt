mod CutLemmas
mod Places
mod Growing
mod Counted
mod Sound
mod Feeding
mod Whole
mod Mapping
mod Own
mod Going
pub mod Public
