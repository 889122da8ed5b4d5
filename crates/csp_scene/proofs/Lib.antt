mod Fitting
mod Shapes
mod Lists
mod Texts
mod Tables
mod Ends
mod Growing
mod Unmixed
mod Sketches
mod Stated
mod Scenes
mod MoveCounts
mod Moving
mod Places
mod NamesApart
mod NodesAre
pub mod Public
