-- lemmas that the proofs of this crate share
pub mod Rounding
pub mod Fetched
pub mod Applied
pub mod Coming
pub mod Answering
pub mod Describing
