-- the definitions that this crate's contracts, and those of the crates above, cite
pub mod Room
pub mod Fit
pub mod Sites
pub mod Parts
pub mod Rules
pub mod Pieces
pub mod Measuring
pub mod Layout
pub mod Laying
pub mod InPlace
-- lemmas for this crate and the crates above
pub mod laws
