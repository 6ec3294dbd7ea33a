-- runs, what they keep, and what stands in memory
pub mod Passes
pub mod Jumps
pub mod Standing
pub mod Keeping
-- bounds of states, memory beside memory, and what a piece comes to
pub mod Bounds
pub mod Beside
pub mod Meeting
-- lemmas for the crates above
pub mod laws
