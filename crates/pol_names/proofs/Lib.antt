pub mod NameFacts
pub mod ServiceFacts
