pub mod Same
pub mod Texts
pub mod Stepping
pub mod Turns
pub mod Takes
pub mod Within
pub mod Counting
pub mod Phases
mod Spelled
