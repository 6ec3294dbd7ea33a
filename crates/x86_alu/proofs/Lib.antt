pub mod Masks
pub mod Turns
pub mod Places
pub mod Signs
