pub mod Head
pub mod Numbers
pub mod Options
