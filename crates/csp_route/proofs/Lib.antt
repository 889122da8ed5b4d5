mod PrefixOrder
mod Places
mod Views
mod Matches
mod Cuts
mod Rows
mod Puts
mod Texts
mod Merges
mod Numerals
mod Splits
mod Reading
mod RoundTrip
mod Withins
pub mod Public
