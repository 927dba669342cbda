pub mod Bits
pub mod Ranges
pub mod Written
pub mod Sizes
pub mod Soles
