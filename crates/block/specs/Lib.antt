pub mod Bounds
pub mod Motion
pub mod Judged
pub mod Execution
