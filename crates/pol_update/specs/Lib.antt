pub mod Update
pub mod Planning
pub mod Line
