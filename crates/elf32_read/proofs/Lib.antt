-- lemmas of this crate's proofs
pub mod Flags
pub mod Tables
pub mod Refusals
pub mod Bytes
