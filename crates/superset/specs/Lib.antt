-- the definitions that this crate's contracts, and those of the crates above, cite
pub mod Sites
pub mod Targets
-- what holds of them, for the proofs of this crate and of the crates above
pub mod RunBytes
pub mod RunAddresses
