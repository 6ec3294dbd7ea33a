-- the definitions that this crate's contracts, and those of the crates above, cite
pub mod Pairs
pub mod Groups
pub mod Ends
pub mod Paged
pub mod Built
-- lemmas for the crates above
pub mod laws
