mod Across
mod AtHome
mod Backs
mod Found
mod Inboxes
mod Kept
mod Lists
mod Splits
mod Still
mod Ways
pub mod Public
