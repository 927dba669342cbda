pub mod Laying
pub mod Asked
pub mod Soles
