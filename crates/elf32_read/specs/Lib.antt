-- the definitions that this crate's contracts, and those of the crates above, cite
pub mod Fields
pub mod Faults
pub mod Load
pub mod Runs
pub mod Reading
pub mod Limits
pub mod Joining
pub mod CodeImage
-- what holds of them, for the proofs of this crate and of the crates above
pub mod Whole
pub mod Segments
pub mod Loaded
pub mod RunCount
pub mod Faultless
