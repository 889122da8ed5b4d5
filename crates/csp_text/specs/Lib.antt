pub mod Cut
pub mod Names
pub mod Numbers
pub mod Hexadecimal
