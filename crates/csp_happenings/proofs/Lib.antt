mod Rounds
mod Along
mod Sets
mod Counting
mod Told
mod Idle
mod Plans
