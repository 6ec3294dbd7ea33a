pub mod Order
pub mod Encoding
pub mod Address
pub mod Assembling
pub mod Slots
pub mod Candidates
pub mod Least
-- lemmas for this crate and the crates above
pub mod laws
