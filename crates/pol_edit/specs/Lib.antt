pub mod EditText
pub mod Applying
pub mod Batches
pub mod FaultText
pub mod Spelling
