pub mod Filling
pub mod Watching
