-- rules, their texts and questions, the bytes of a counter, and what it means that it counts
pub mod Rules
pub mod RuleTexts
pub mod Counter
pub mod Counting
-- lemmas for this crate and the crates above
pub mod laws
