pub mod Alone
pub mod ServingFacts
