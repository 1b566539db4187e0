pub mod Odd
pub mod Words
pub mod Places
pub mod Ends
