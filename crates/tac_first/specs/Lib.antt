pub mod InRange
pub mod Choice
pub mod SoFar
