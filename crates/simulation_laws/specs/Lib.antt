-- the statements, in reading order: the executable bytes of a file, the pieces of sites, how an output is made, and what
-- it means that an output follows its input and stops where it stops
pub mod Code
pub mod Pieces
pub mod SitePieces
pub mod Relocated
pub mod Simulation
pub mod Stopping
-- the law of a site, on which the induction over runs stands
pub mod Stepping
pub mod Followed
-- what stands in a frame's code, and how the stub at its front is entered
pub mod Front
pub mod Standing
pub mod Entered
-- lemmas for this crate and the crates above
pub mod laws
