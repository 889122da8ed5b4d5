pub mod Happenings
pub mod Numbers
pub mod Remembering
