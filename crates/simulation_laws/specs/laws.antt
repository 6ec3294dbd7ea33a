-- what a frame's rules say of its parts, and what a run through its stub finds
pub mod Ruled
pub mod Fronts
pub mod Places
pub mod Finding
-- why a site has its law, and why a run of which each site has it is followed, lowest first
pub mod Bounded
pub mod Loading
pub mod StepTable
pub mod Sound
pub mod ThroughStub
pub mod AtSite
-- counters: their places and numbers, what one comes to, and a site with its counters
pub mod Numbers
pub mod Counters
pub mod Told
pub mod Parts
pub mod EdgeSite
pub mod CountedSite
pub mod OneStep
pub mod Paces
pub mod Simulating
-- what piece_at tests comes to the law
pub mod Pieced
