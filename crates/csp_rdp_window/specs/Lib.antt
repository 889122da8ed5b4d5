pub mod Numbers
pub mod Offers
pub mod Places
pub mod Receiving
pub mod Sending
pub mod Shown
pub mod Times
