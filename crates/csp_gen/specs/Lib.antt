pub mod Lines
pub mod GenText
pub mod GenScene
