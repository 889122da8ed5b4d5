pub mod Trailer
pub mod Pieces
pub mod Gathering
pub mod Collecting
