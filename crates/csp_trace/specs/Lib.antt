pub mod Modes
pub mod Owes
pub mod Reread
pub mod Said
