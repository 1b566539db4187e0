pub mod LineFacts
pub mod NumberFacts
pub mod SymbolFacts
