pub mod Blobs
pub mod Sending
pub mod Asking
