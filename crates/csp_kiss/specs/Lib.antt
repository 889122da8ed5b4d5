pub mod Frame
pub mod Stream
pub mod Reading
pub mod Room
pub mod GoingOn
