pub mod Edge
pub mod Running
pub mod Said
pub mod Statuses
pub mod Words
