-- the bytes of pieces
pub mod Near
-- lemmas for this crate and the crates above
pub mod laws
