pub mod Preparing
pub mod Soles
