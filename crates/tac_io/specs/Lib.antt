pub mod FaultText
pub mod Answering
