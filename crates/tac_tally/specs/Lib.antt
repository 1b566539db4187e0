pub mod Keeping
pub mod Book
pub mod Tally
pub mod Recount
pub mod Counting
pub mod Accounts
