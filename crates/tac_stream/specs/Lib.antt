pub mod Turns
pub mod Kept
