mod Spaces
mod PercentFacts
pub mod Apart
mod QueryFound
mod QueryBack
pub mod BatchFacts
pub mod Lines
