pub mod Delivery
pub mod Hubs
