-- how long pieces are
pub mod Lengths
-- what a run of each piece comes to
pub mod Branches
