-- Laws that the proofs of several functions use; that the output space may be used again; and that the public contract allows one result.
pub mod Stores
pub mod Packed
pub mod Digits
pub mod FieldsUsed
pub mod Complement
pub mod Command
pub mod Reused
pub mod Soles
pub mod Examples
