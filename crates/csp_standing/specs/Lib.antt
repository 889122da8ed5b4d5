pub mod Fabrics
pub mod Network
pub mod Played
pub mod Shown
pub mod Standing
