pub mod Applied
pub mod Asking
pub mod Circling
pub mod PlainHub
pub mod Planning
pub mod Room
pub mod Stocking
pub mod Telling
