-- the definitions that this crate's contracts, and those of the crates above, cite
pub mod Chains
pub mod Spans
-- those that only the contracts inside this crate cite
pub mod Walking
-- lemmas for this crate and the crates above
pub mod laws
