mod WordLaws
pub mod Public
