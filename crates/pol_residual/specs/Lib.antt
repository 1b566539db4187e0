pub mod Derivative
pub mod Residuals
