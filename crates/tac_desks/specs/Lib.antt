pub mod Opening
pub mod Kept
pub mod Metered
pub mod Remembered
