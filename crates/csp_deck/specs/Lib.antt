pub mod Carried
pub mod Circles
pub mod Keeping
pub mod Kept
pub mod Regions
pub mod Runs
pub mod Step
