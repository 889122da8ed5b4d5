mod Closing
mod Entries
mod Hearing
mod Rounds
mod Staying
