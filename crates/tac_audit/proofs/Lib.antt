mod JsonApart
mod OriginsApart
pub mod EventsApart
pub mod TurnedAwayApart
pub mod MaskingFacts
pub mod AnswerFacts
mod LineFacts
