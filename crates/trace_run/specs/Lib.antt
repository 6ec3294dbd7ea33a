-- the definitions that the contracts cite: what a trace gives, and its text
pub mod Counts
pub mod Reports
pub mod Texts
-- an outcome of the machine as an end, for the proofs of this crate
pub mod Outcomes
-- that a trace has one outcome, for this crate's law and the crates above
pub mod laws
