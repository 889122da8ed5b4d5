mod CountLemmas
mod PlaceLemmas
mod ReceiveLemmas
mod SendLemmas
pub mod Public
