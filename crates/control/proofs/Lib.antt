pub mod Keeping
pub mod Words
pub mod Settings
pub mod Soles
