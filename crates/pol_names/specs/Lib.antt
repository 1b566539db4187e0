pub mod Name
pub mod Secret
pub mod SubjectId
pub mod Decision
pub mod Kept
pub mod SameService
pub mod Service
