-- lemmas for this crate and the crates above: each site stands in one chain once, and links lead on
pub mod Rests
pub mod Making
pub mod Once
pub mod Linked
