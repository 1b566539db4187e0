pub mod SentFacts
pub mod JudgedFacts
pub mod TableFacts
pub mod CountFacts
pub mod StandingFacts
pub mod Laws
pub mod ReadingFacts
pub mod Examples
