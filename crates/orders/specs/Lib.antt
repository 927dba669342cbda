pub mod Orders
pub mod Laying
