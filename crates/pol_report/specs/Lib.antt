pub mod Sharing
pub mod Saying
pub mod Comparing
pub mod Asking
