mod Across
mod AppQueues
mod Beyond
mod Each
mod Heard
mod IfaceQueues
mod Names
mod OwnQueues
mod Owners
mod Planned
mod QueueNames
mod Received
mod RouterQueues
mod ToldQueues
mod Transmitted
mod Writers
pub mod Public
