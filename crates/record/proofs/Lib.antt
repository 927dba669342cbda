pub mod Reach
pub mod InOrder
pub mod Soles
