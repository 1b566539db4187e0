pub mod Descriptors
pub mod Devices
pub mod Opening
