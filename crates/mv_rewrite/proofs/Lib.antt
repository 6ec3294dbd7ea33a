-- why the code gives what the definitions say
pub mod Instance
pub mod LayoutFacts
-- what stands where in an output, and how it loads, lowest first
pub mod Longer
pub mod PlacedPlan
pub mod Planned
pub mod Recorded
pub mod Relocating
-- why the whole is so
pub mod Outputs
pub mod OutputFacts
pub mod Assembled
-- the rules of an output that is there, and the laws
pub mod Listed
pub mod Kept
pub mod Replanned
