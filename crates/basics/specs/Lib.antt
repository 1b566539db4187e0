pub mod Symbol
pub mod Lines
pub mod Number
pub mod Lending
pub mod Memory
pub mod Equality
pub mod TextOrder
