pub mod Altering
pub mod Telling
