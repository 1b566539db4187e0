pub mod Start
pub mod Continue
pub mod Reply
