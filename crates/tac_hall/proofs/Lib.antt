pub mod CallFacts
pub mod HistoryFacts
pub mod LogFacts
pub mod SegmentFacts
pub mod ViewFacts
pub mod RoomFacts
pub mod ClosingFacts
pub mod Crossing
