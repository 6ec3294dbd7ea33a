-- the definitions that this crate's contracts, and those of the crates above, cite
pub mod Appended
pub mod Bytes
pub mod Effects
pub mod Faults
pub mod Holding
pub mod MemSinkState
pub mod MemStoreState
pub mod Memory
pub mod Pieces
pub mod Printing
pub mod Reading
pub mod Span
pub mod StatusCode
pub mod Table
pub mod Text
-- what holds of them, for the proofs of the crates above
pub mod Digits
pub mod Prefixes
pub mod Words
