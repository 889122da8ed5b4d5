mod ClosingBuffers
mod ClosingParts
mod CountLaws
mod DecksLaws
mod Ends
mod ServingLaws
mod SetLemmas
mod Unused
pub mod Public
