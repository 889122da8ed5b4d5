pub mod Labels
pub mod Words
pub mod Timeline
