pub mod Meaning
pub mod Asking
pub mod Editing
pub mod Reporting
pub mod FaultText
pub mod Serving
