pub mod Ends
pub mod Notes
pub mod Parts
pub mod Slates
pub mod Stores
