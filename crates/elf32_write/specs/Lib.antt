-- the definitions that this crate's contracts, and those of the crates above, cite
pub mod Format
pub mod File
pub mod Writing
pub mod Frame
pub mod Framing
pub mod Plans
-- what holds of them, for the proofs of this crate and of the crates above
pub mod Within
pub mod Rules
pub mod Parts
pub mod Written
pub mod ReadBack
