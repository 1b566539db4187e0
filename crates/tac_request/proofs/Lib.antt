pub mod ArgumentsFacts
pub mod ReplyFacts
pub mod ArgumentFacts
pub mod RequestFacts
pub mod AcctRequestFacts
pub mod RecordFacts
