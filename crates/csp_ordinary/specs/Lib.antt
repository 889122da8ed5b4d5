pub mod AsSent
pub mod Harmless
pub mod Ordinary
pub mod Words
