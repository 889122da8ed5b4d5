mod Cutting
mod Escapes
mod Judging
mod Gaining
mod GoingOn
mod Steps
mod RoundTrip
pub mod Public
