pub mod Fairness
pub mod Hands
pub mod PlainPool
pub mod Tallies
