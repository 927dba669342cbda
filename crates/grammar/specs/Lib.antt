pub mod Bytes
pub mod Grammar
pub mod Derivation
pub mod Typed
pub mod Work
pub mod Working
pub mod Rearranged
