mod Pouring
mod Sorting
mod Stores
