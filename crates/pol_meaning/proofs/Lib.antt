pub mod DecidingFacts
