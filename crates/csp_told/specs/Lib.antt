pub mod LastLines
pub mod WithinNumbers
