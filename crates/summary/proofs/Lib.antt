pub mod Held
pub mod Mask
pub mod Entries
pub mod Kept
pub mod Summed
pub mod Soles
