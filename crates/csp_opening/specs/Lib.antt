pub mod Handed
pub mod Opened
pub mod Parted
pub mod Posted
pub mod Unposted
pub mod Whole
