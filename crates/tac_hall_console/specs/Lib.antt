pub mod Commands
pub mod DevicesAnswer
pub mod FaultText
pub mod Operated
pub mod Operating
pub mod Shown
pub mod Users
