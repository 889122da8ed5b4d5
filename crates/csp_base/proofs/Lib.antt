mod PriorityLaws
mod SequenceLaws
mod MemoryLemmas
mod TransferLemmas
pub mod Public
