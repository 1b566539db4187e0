pub mod ArgumentFacts
pub mod BodyFacts
pub mod ReplyFacts
pub mod JudgingFacts
pub mod AnswerFacts
