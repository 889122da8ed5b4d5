pub mod Causes
pub mod Ends
pub mod Moves
pub mod Seen
pub mod Serving
pub mod Sides
pub mod Traced
