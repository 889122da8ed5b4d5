mod Headers
mod Idle
mod KeptRows
mod Logged
mod Weighing
