-- lemmas for the crates above: what a table's bytes are, how long they are, and how they are read
pub mod Skips
pub mod Counts
pub mod Reading
