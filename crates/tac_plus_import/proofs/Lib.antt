pub mod Deciding
pub mod Answering
pub mod Joined
pub mod Sureness
pub mod Adding
pub mod Written
pub mod Keeping
pub mod Rows
