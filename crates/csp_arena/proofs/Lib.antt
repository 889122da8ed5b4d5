mod Steps
mod Strips
mod Shells
mod Lodged
mod Order
mod Sorted
