pub mod Appended
pub mod Disk
pub mod Log
pub mod Logged
pub mod Lines
pub mod Device
pub mod Console
pub mod TurnedAway
