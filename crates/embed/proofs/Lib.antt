pub mod Runs
pub mod Held
pub mod Repacked
pub mod Demands
pub mod Soles
pub mod FileDemands
