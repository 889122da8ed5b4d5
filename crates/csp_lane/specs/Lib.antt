pub mod Ends
pub mod Marks
pub mod Relays
pub mod Seen
