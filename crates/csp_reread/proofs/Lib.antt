mod Runs
mod Steady
mod Streams
mod Turns
mod Whole
