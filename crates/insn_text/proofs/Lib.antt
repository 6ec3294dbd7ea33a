pub mod Digits
pub mod Extending
