mod AsSent
mod Buses
mod Coming
mod Counting
mod Fragments
mod Hops
mod Nothing
mod Serials
mod Streams
mod Unflipped
mod Headers
pub mod Public
