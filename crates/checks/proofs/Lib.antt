pub mod Axes
pub mod Modes
pub mod Soles
