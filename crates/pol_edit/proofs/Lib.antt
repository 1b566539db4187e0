mod FieldFacts
mod Spaces
mod ReadBack
mod SpelledSo
pub mod Missing
