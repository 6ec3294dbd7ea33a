-- the definitions that this crate's contracts, and those of the crates above, cite
pub mod Names
pub mod Operands
pub mod Text
-- what holds between its calls
pub mod Extends
