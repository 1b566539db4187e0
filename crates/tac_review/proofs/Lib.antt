mod Counting
mod CheckFacts
mod LintFacts
pub mod OnlyFacts
pub mod TableFacts
pub mod ReadingFacts
pub mod LineFacts
pub mod LoadingFacts
pub mod DeviceFacts
