pub mod Parts
pub mod Products
pub mod Ways
pub mod BadArc
pub mod Soles
