pub mod Causal
