pub mod Lengths
pub mod Soles
