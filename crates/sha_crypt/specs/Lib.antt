pub mod Crypt
pub mod HashText
pub mod Passing
pub mod SameHash
