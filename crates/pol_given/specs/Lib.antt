pub mod Given
pub mod Granting
pub mod Saying
