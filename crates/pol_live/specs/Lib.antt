pub mod ChainRules
pub mod Kept
pub mod Renewing
pub mod Rise
pub mod Counting
pub mod Refusing
pub mod Live
pub mod Judging
