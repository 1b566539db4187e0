pub mod Address
pub mod Census
pub mod Counting
