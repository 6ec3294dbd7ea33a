-- the stub's bytes, and what it means that it finds a new address
pub mod Stub
pub mod Finding
-- lemmas for this crate and the crates above
pub mod laws
