pub mod Holding
pub mod Board
pub mod Begun
