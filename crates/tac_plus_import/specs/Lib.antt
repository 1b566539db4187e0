pub mod Blocks
pub mod Lines
pub mod Rules
pub mod Joining
pub mod Drafts
