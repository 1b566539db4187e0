pub mod StartFacts
pub mod ContinueFacts
