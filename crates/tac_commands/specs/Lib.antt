pub mod Linting
