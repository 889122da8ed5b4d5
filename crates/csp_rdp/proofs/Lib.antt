mod BalanceLemmas
mod CountLemmas
mod FarLemmas
mod HoldingLemmas
mod PlacedLemmas
mod RegionLemmas
mod RowLemmas
mod SoundLemmas
mod TimerLemmas
pub mod Public
