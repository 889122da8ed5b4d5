pub mod Priority
pub mod Seat
pub mod Sequence
pub mod Trace
pub mod Faults
pub mod Transfer
pub mod Memory
