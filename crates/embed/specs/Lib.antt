pub mod Packing
pub mod Files
