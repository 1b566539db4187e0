pub mod Faults
pub mod Chains
pub mod Sizes
