pub mod Hearing
pub mod Typing
pub mod Hints
