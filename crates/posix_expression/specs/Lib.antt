pub mod Syntax
pub mod Finding
pub mod Trees
pub mod Memory
pub mod Reading
pub mod Writing
pub mod Searched
pub mod Gathered
