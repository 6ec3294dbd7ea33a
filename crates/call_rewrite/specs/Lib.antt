-- the bytes of pieces
pub mod Far
-- lemmas for this crate and the crates above
pub mod laws
