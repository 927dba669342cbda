pub mod Sizes
pub mod Kept
pub mod Soles
