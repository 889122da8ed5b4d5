pub mod Prefix
pub mod Routes
pub mod Codes
pub mod Kept
pub mod Parts
pub mod Text
pub mod Reader
pub mod Written
