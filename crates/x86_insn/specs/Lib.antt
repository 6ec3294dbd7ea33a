-- the definitions that the contracts of this crate and of those above cite: spellings
pub mod Flow
pub mod Prefixes
pub mod Addressing
pub mod Meaning
pub mod Rows
pub mod Spelling
-- the spelling table as a walk over bytes, for the decoder
pub mod Scanning
-- values and flags
pub mod Flags
pub mod Values
pub mod Shifts
pub mod Products
pub mod Bits
pub mod Conditions
-- states, steps and runs
pub mod State
pub mod Operands
pub mod Ask
pub mod Moves
pub mod Arithmetic
pub mod Strings
pub mod Transfers
pub mod Segments
pub mod Round
pub mod Step
pub mod Run
pub mod TakenUp
-- what holds of spellings, for the proofs of this crate and of the crates above
pub mod Agreeing
pub mod Scanned
pub mod OperandBytes
pub mod OperandScan
pub mod RowScan
pub mod PrefixScan
pub mod Laws
