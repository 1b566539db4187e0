mod Sameness
mod SaltFacts
pub mod TextFacts
pub mod SymbolFacts
