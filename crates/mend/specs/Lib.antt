pub mod Repairs
pub mod Mend
pub mod Places
pub mod Line
pub mod Cutting
pub mod Text
pub mod Joining
