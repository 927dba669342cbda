pub mod Tables
pub mod Ranges
pub mod Soles
