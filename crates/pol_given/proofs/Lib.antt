pub mod GivenFacts
pub mod SayingFacts
pub mod GrantFacts
