-- edge rules and their texts, which way a branch goes, and the bytes of its piece with two counters
pub mod Rules
pub mod RuleTexts
pub mod Jumping
pub mod Edges
-- lemmas for this crate and the crates above
pub mod laws
