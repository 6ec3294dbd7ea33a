-- lemmas for the crates above: runs, what is fetched, what a write keeps, one step, symbolic runs
pub mod Passing
pub mod States
pub mod Fetching
pub mod Spelled
pub mod Putting
pub mod Turns
pub mod Logs
pub mod PrivateWords
pub mod NearJump
pub mod Images
pub mod Symbolic
-- lemmas for the crates above: bounds of values, of a round's end, of a step
pub mod Values
pub mod Ends
pub mod Rounds
pub mod Bounding
-- cells, code that stays, memory beside memory, copied bytes
pub mod Cells
pub mod Coding
pub mod Lasting
pub mod Alongside
pub mod Copying
pub mod Composing
pub mod Joining
pub mod Resting
