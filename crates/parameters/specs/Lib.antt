pub mod File
pub mod Places
pub mod Refusal
pub mod Reading
pub mod Writing
pub mod Text
pub mod Parse
pub mod Told
