pub mod Blanks
pub mod Soles
