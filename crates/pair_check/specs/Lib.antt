-- the table of differences in reading order, and what checking two files gives
pub mod Parts
pub mod Checking
-- what its loop over addresses gives
pub mod Walking
