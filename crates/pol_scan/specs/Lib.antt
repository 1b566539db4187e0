pub mod Words
pub mod Branches
pub mod Congruence
pub mod Discovery
pub mod Table
pub mod Alphabet
