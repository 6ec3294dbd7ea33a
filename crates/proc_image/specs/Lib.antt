-- the definitions that this crate's contracts, and those of the crates above, cite
pub mod Paged
pub mod Access
pub mod Counting
pub mod Mapping
pub mod Applying
pub mod Loading
pub mod Stack
-- what holds of them, for the proofs of this crate and of the crates above
pub mod Laws
