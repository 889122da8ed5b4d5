mod Applying
mod Due
mod Ends
mod Few
mod Others
mod Rounds
mod Sound
mod Stocked
pub mod Public
