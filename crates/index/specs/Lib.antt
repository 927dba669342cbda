pub mod Index
pub mod Held
pub mod Update
pub mod Lines
pub mod Space
