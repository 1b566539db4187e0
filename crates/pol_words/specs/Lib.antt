pub mod FindingText
pub mod Words
pub mod Reasons
pub mod Places
pub mod Plain
