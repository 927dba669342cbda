pub mod Bools
pub mod Ints
pub mod Sole
